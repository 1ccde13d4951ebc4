-- Modules and their items (IEEE 1364-2001 annexes A.1 and A.2).
use Rattle.std.specs.Prelude.{Bool, true, false, List, [], ◌∷◌, ◌++◌, map, flat_map, Option, Some, None}
use Rattle.cov_host.specs.declared.place.Place.{Place}
use Rattle.four_state.specs.declared.edge.Edge.{Edge}
use Rattle.four_state.specs.declared.edge.Edge.TheVariants.{Pos, Neg}
use Rattle.verilog_lexer.specs.Tokens.{Lexeme}
use Rattle.verilog_tree.specs.declared.item.Named.{Named}
use Rattle.verilog_tree.specs.declared.item.When.{When}
use Rattle.verilog_tree.specs.declared.item.When.TheVariants.{Star, Names, Edges}
use Rattle.verilog_tree.specs.Tree.{Expr, RangeExpr, Statement, Param, Declared, Given, One, Item, port_item, net_item, variable_item, integer_item, parameter_item, continuous_item, always_item, initial_item, instance_item, Module}
use Rattle.grammar_rules.specs.Rule.{empty, both, either, many, made, nest}
use Rattle.verilog_grammar.specs.Kind.{Kind, kind_of}
use Rattle.verilog_grammar.specs.declared.kind.Kind.TheVariants as k
use Rattle.verilog_grammar.specs.declared.body.Body.TheVariants.{Combinational, Clocked, Initial}
use Rattle.verilog_grammar.specs.Language.{statement}
use Rattle.verilog_grammar.specs.Parts.{Phrased, only, any_of, after, before, optional, present, with_front, listed, in_parentheses, an_expression, name_rule, range_rule}
use Rattle.verilog_grammar.specs.Statements.{set_rule}

-- ---- ports

pub record Direction : Type 0 where
  pub place : Place
  pub input : Bool
  pub reg : Bool

abbrev pub input_of : Lexeme × Bool → Direction
input_of p = record { place = p.0.place; input = true; reg = false }

abbrev pub output_of : Lexeme × Bool → Direction
output_of p = record { place = p.0.place; input = false; reg = p.1 }

abbrev pub is_wire : Lexeme → Bool
is_wire t = false

-- "input" [ "wire" ] | "output" [ "wire" | "reg" ]
unfoldable pub direction_rule : Phrased Direction
direction_rule = either (made input_of (both (only k.Input) (present k.Wire))) (made output_of (both (only k.Output) (either (made is_wire (only k.Wire)) (present k.Reg))))

-- [ "signed" ] [ range ]
abbrev pub Shape : Type 0
Shape = Bool × Option RangeExpr

unfoldable pub shape_rule : Phrased Shape
shape_rule = both (present k.Signed) (optional range_rule)

-- a port with its name
pub record PortHead : Type 0 where
  pub direction : Direction
  pub shape : Shape
  pub name : Named

abbrev pub port_of : Direction × (Shape × Named) → PortHead
port_of p = record { direction = p.0; shape = p.1.0; name = p.1.1 }

-- port = ( "input" [ "wire" ] | "output" [ "wire" | "reg" ] ) [ "signed" ] [ range ] name
unfoldable pub port_rule : Phrased PortHead
port_rule = made port_of (both direction_rule (both shape_rule name_rule))

-- a port and the plain names after it
abbrev pub port_item_of : PortHead → List Named → Item
port_item_of h names = record {
  place = h.direction.place;
  form = port_item (record { input = h.direction.input; reg = h.direction.reg; signed = h.shape.0; range = h.shape.1; names = h.name ∷ names });
}

-- what follows a comma in a list of ports
pub data Entry : Type 0 where
  new_port : PortHead → Entry
  more_name : Named → Entry

unfoldable pub entry_rule : Phrased Entry
entry_rule = either (made new_port port_rule) (made more_name name_rule)

unfoldable pub entries_rule : Phrased (PortHead × List Entry)
entries_rule = both port_rule (many (after k.Comma entry_rule))

-- the items of a port with these names after it, and of what follows
abbrev pub port_items : PortHead → (names : List Named) → List Entry → List Item
port_items h names [] = port_item_of h names ∷ []
port_items h names (new_port other ∷ entries) = port_item_of h names ∷ port_items other [] entries
port_items h names (more_name name ∷ entries) = port_items h (names ++ name ∷ []) entries

abbrev pub entry_name : Entry → Named
entry_name (new_port h) = h.name
entry_name (more_name name) = name

-- the names of the port list, and the ports that it declares
abbrev pub Ports : Type 0
Ports = List Named × List Item

abbrev pub plain_ports : List Named → Ports
plain_ports names = (names, [])

abbrev pub declared_ports : PortHead × List Entry → Ports
declared_ports p = (p.0.name ∷ map entry_name p.1, port_items p.0 [] p.1)

-- plist = name { "," name } | port { "," ( port | name ) }
unfoldable pub plist_rule : Phrased Ports
plist_rule = either (made plain_ports (listed name_rule)) (made declared_ports entries_rule)

abbrev pub no_ports : Unit {0} → Ports
no_ports u = ([], [])

-- [ "(" [ plist ] ")" ]
unfoldable pub header_ports_rule : Phrased Ports
header_ports_rule = either (in_parentheses (either plist_rule (made no_ports empty))) (made no_ports empty)

-- ---- parameters

-- whether "signed" or "integer" is next, and the range
pub record ParamType : Type 0 where
  pub signed : Bool
  pub integer : Bool
  pub range : Option RangeExpr

-- signed, integer or neither
abbrev pub Word : Type 0
Word = Bool × Bool

abbrev pub signed_word : Lexeme → Word
signed_word t = (true, false)

abbrev pub integer_word : Lexeme → Word
integer_word t = (false, true)

abbrev pub no_word : Unit {0} → Word
no_word u = (false, false)

abbrev pub type_of : Word × Option RangeExpr → ParamType
type_of p = record { signed = p.0.0; integer = p.0.1; range = p.1 }

-- [ "signed" | "integer" ] [ range ]
unfoldable pub type_rule : Phrased ParamType
type_rule = made type_of (both (either (made signed_word (only k.Signed)) (either (made integer_word (only k.Integer)) (made no_word empty))) (optional range_rule))

-- name "=" expr
unfoldable pub valued_rule : Phrased (Named × Expr)
valued_rule = both name_rule (after k.Equals an_expression)

abbrev pub param_of : (local : Bool) → ParamType → Named × Expr → Param
param_of local t p = record { name = p.0; local = local; signed = t.signed; integer = t.integer; range = t.range; value = p.1 }

-- a parameter of a header, with its type if there is a "parameter"
abbrev pub HeaderParam : Type 0
HeaderParam = Option ParamType × (Named × Expr)

-- pdecl = [ "parameter" [ "signed" | "integer" ] [ range ] ] name "=" expr
unfoldable pub header_param_rule : Phrased HeaderParam
header_param_rule = both (optional (after k.Parameter type_rule)) valued_rule

abbrev pub plain_type : ParamType
plain_type = record { signed = false; integer = false; range = None }

abbrev pub type_or : ParamType → Option ParamType → ParamType
type_or t None = t
type_or t (Some u) = u

-- a parameter without type has that of the one before it
abbrev pub header_params : (before : ParamType) → List HeaderParam → List Param
header_params t [] = []
header_params t (p ∷ ps) = param_of false (type_or t p.0) p.1 ∷ header_params (type_or t p.0) ps

abbrev pub header_params_of : Option (List HeaderParam) → List Param
header_params_of None = []
header_params_of (Some ps) = header_params plain_type ps

-- [ "#" "(" pdecl { "," pdecl } ")" ]
unfoldable pub header_params_rule : Phrased (List Param)
header_params_rule = made header_params_of (optional (after k.Hash (in_parentheses (listed header_param_rule))))

-- ---- declarations

abbrev pub port_items_of : PortHead × List Named → List Item
port_items_of p = port_item_of p.0 p.1 ∷ []

-- port { "," name } ";"
unfoldable pub port_item_rule : Phrased (List Item)
port_item_rule = made port_items_of (before (both port_rule (many (after k.Comma name_rule))) k.Semicolon)

abbrev pub net_of : Named × Option Expr → Declared
net_of p = record { name = p.0; value = p.1; words = None }

-- net = name [ "=" expr ]
unfoldable pub net_rule : Phrased Declared
net_rule = made net_of (both name_rule (optional (after k.Equals an_expression)))

abbrev pub net_items_of : Lexeme × (Shape × List Declared) → List Item
net_items_of p = record { place = p.0.place; form = net_item (record { signed = p.1.0.0; range = p.1.0.1; names = p.1.1 }) } ∷ []

-- "wire" [ "signed" ] [ range ] net { "," net } ";"
unfoldable pub net_item_rule : Phrased (List Item)
net_item_rule = made net_items_of (both (only k.Wire) (both shape_rule (before (listed net_rule) k.Semicolon)))

-- the initial value of a variable, or the range of the words of a memory
abbrev pub VariableEnd : Type 0
VariableEnd = Option Expr × Option RangeExpr

abbrev pub initial_value : Expr → VariableEnd
initial_value e = (Some e, None)

abbrev pub words_range : RangeExpr → VariableEnd
words_range r = (None, Some r)

abbrev pub no_end : Unit {0} → VariableEnd
no_end u = (None, None)

abbrev pub variable_of : Named × VariableEnd → Declared
variable_of p = record { name = p.0; value = p.1.0; words = p.1.1 }

-- var = name [ "=" expr | range ]
unfoldable pub variable_rule : Phrased Declared
variable_rule = made variable_of (both name_rule (either (made initial_value (after k.Equals an_expression)) (either (made words_range range_rule) (made no_end empty))))

abbrev pub variable_items_of : Lexeme × (Shape × List Declared) → List Item
variable_items_of p = record { place = p.0.place; form = variable_item (record { signed = p.1.0.0; range = p.1.0.1; names = p.1.1 }) } ∷ []

-- "reg" [ "signed" ] [ range ] var { "," var } ";"
unfoldable pub variable_item_rule : Phrased (List Item)
variable_item_rule = made variable_items_of (both (only k.Reg) (both shape_rule (before (listed variable_rule) k.Semicolon)))

abbrev pub integer_items_of : Lexeme × List Declared → List Item
integer_items_of p = record { place = p.0.place; form = integer_item p.1 } ∷ []

-- "integer" init { "," init } ";"
unfoldable pub integer_item_rule : Phrased (List Item)
integer_item_rule = made integer_items_of (both (only k.Integer) (before (listed net_rule) k.Semicolon))

abbrev pub is_local : Kind → Bool
is_local k.Localparam = true
is_local _ = false

abbrev pub parameter_items_of : Lexeme × (ParamType × List (Named × Expr)) → List Item
parameter_items_of p = record { place = p.0.place; form = parameter_item (map (param_of (is_local (kind_of p.0)) p.1.0) p.1.1) } ∷ []

-- ( "parameter" | "localparam" ) [ "signed" | "integer" ] [ range ] name "=" expr { "," name "=" expr } ";"
unfoldable pub parameter_item_rule : Phrased (List Item)
parameter_item_rule = made parameter_items_of (both (any_of k.Parameter (k.Localparam ∷ [])) (both type_rule (before (listed valued_rule) k.Semicolon)))

-- ---- processes

abbrev pub continuous_item_of : Place → Expr × Expr → Item
continuous_item_of place p = record { place = place; form = continuous_item p.0 p.1 }

abbrev pub continuous_items_of : Lexeme × List (Expr × Expr) → List Item
continuous_items_of p = map (continuous_item_of p.0.place) p.1

-- "assign" set { "," set } ";"
unfoldable pub continuous_item_rule : Phrased (List Item)
continuous_item_rule = made continuous_items_of (both (only k.Assign) (before (listed set_rule) k.Semicolon))

-- what a block waits for, and its body
abbrev pub Timed : Type 0
Timed = When × Statement

abbrev pub under_star : Statement → Timed
under_star s = (Star, s)

abbrev pub under_names : List Named × Statement → Timed
under_names p = (Names p.0, p.1)

abbrev pub under_edges : List (Edge × Named) × Statement → Timed
under_edges p = (Edges p.0, p.1)

-- one or more, with "or" or commas between
abbrev pub separated : {A : Type 0} → Phrased A → Phrased (List A)
separated g = made with_front (both g (many (made behind (both (any_of k.OrWord (k.Comma ∷ [])) g))))
  where
    behind : {A : Type 0} → Lexeme × A → A
    behind p = p.1

abbrev pub pos_edge : Named → Edge × Named
pos_edge n = (Pos, n)

abbrev pub neg_edge : Named → Edge × Named
neg_edge n = (Neg, n)

-- edge = ( "posedge" | "negedge" ) name
unfoldable pub edge_rule : Phrased (Edge × Named)
edge_rule = either (made pos_edge (after k.Posedge name_rule)) (made neg_edge (after k.Negedge name_rule))

-- "*" | "(" "*" ")" | "(" name { sep name } ")" | "(" edge { sep edge } ")", and the body
unfoldable pub timed_rule : Phrased Timed
timed_rule =
    either (made under_star (after k.Star (nest (statement Combinational))))
    (after k.OpenParen (either (made under_star (after k.Star (after k.CloseParen (nest (statement Combinational)))))
    (either (made under_names (both (separated name_rule) (after k.CloseParen (nest (statement Combinational)))))
    (made under_edges (both (separated edge_rule) (after k.CloseParen (nest (statement Clocked))))))))

abbrev pub always_items_of : Lexeme × Timed → List Item
always_items_of p = record { place = p.0.place; form = always_item p.1.0 p.1.1 } ∷ []

-- "always" "@" when stmt
unfoldable pub always_item_rule : Phrased (List Item)
always_item_rule = made always_items_of (both (only k.Always) (after k.At timed_rule))

abbrev pub initial_items_of : Lexeme × Statement → List Item
initial_items_of p = record { place = p.0.place; form = initial_item p.1 } ∷ []

-- "initial" stmt
unfoldable pub initial_item_rule : Phrased (List Item)
initial_item_rule = made initial_items_of (both (only k.Initial) (nest (statement Initial)))

-- ---- instances

abbrev pub override_by_name : Named × Expr → Given
override_by_name p = record { name = Some p.0; value = Some p.1 }

abbrev pub override_by_place : Expr → Given
override_by_place e = record { name = None; value = Some e }

-- over { "," over }, all by name or all by position
unfoldable pub overrides_rule : Phrased (List Given)
overrides_rule = either (listed (made override_by_name (both (after k.Dot name_rule) (in_parentheses an_expression)))) (listed (made override_by_place an_expression))

abbrev pub connected_by_name : Named × Option Expr → Given
connected_by_name p = record { name = Some p.0; value = p.1 }

abbrev pub connected_by_place : Option Expr → Given
connected_by_place e = record { name = None; value = e }

-- nothing between the parentheses is no connection
abbrev pub without_lone_empty : List (Option Expr) → List (Option Expr)
without_lone_empty (None ∷ []) = []
without_lone_empty es = es

abbrev pub connections_by_place : List (Option Expr) → List Given
connections_by_place es = map connected_by_place (without_lone_empty es)

-- conn { "," conn }, all by name or all by position
unfoldable pub connections_rule : Phrased (List Given)
connections_rule =
    either (listed (made connected_by_name (both (after k.Dot name_rule) (in_parentheses (optional an_expression)))))
    (made connections_by_place (listed (optional an_expression)))

abbrev pub one_of : Named × List Given → One
one_of p = record { name = p.0; given = p.1 }

-- one = name "(" [ conn { "," conn } ] ")"
unfoldable pub one_rule : Phrased One
one_rule = made one_of (both name_rule (in_parentheses connections_rule))

abbrev pub no_overrides : Unit {0} → List Given
no_overrides u = []

abbrev pub instance_items_of : Named × (List Given × List One) → List Item
instance_items_of p = record { place = p.0.place; form = instance_item (record { of_module = p.0; overrides = p.1.0; ones = p.1.1 }) } ∷ []

-- instance = name [ "#" "(" over { "," over } ")" ] one { "," one } ";"
unfoldable pub instance_item_rule : Phrased (List Item)
instance_item_rule = made instance_items_of (both name_rule (both (either (after k.Hash (in_parentheses overrides_rule)) (made no_overrides empty)) (before (listed one_rule) k.Semicolon)))

-- ---- modules

-- an item of the text can be several
unfoldable pub item_rule : Phrased (List Item)
item_rule =
    either port_item_rule (either net_item_rule (either variable_item_rule (either integer_item_rule (either parameter_item_rule
    (either continuous_item_rule (either always_item_rule (either initial_item_rule instance_item_rule)))))))

-- the items of a module, one after the other
abbrev pub joined : List (List Item) → List Item
joined items = flat_map (λ each. each) items

unfoldable pub items_rule : Phrased (List Item)
items_rule = made joined (many item_rule)

abbrev pub module_of : Named × (List Param × (Ports × List Item)) → Module
module_of p = record { name = p.0; params = p.1.0; ports = p.1.1.0.0; items = p.1.1.0.1 ++ p.1.1.1 }

-- module = "module" name [ "#" "(" pdecl { "," pdecl } ")" ] [ "(" [ plist ] ")" ] ";" { item } "endmodule"
unfoldable pub module_rule : Phrased Module
module_rule = made module_of (both (after k.Module name_rule) (both header_params_rule (both header_ports_rule (after k.Semicolon (before items_rule k.Endmodule)))))

-- source = { module }
unfoldable pub source_rule : Phrased (List Module)
source_rule = many module_rule
