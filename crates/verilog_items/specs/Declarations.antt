-- What ports, types and shapes of declarations represent.
use Rattle.std.specs.Prelude.{ℕ, List, [], ◌∷◌, map, ◌++◌, Option}
use Rattle.verilog_grammar.specs.Kind.{code}
use Rattle.std.specs.Option.{option_map}
use Rattle.verilog_tree.specs.Tree as t
use Rattle.verilog_tree.specs.View.{range_option_view, expr_view, items_view, params_view}
use Rattle.verilog_tree.specs.declared.item.Named.{Named}
use Rattle.verilog_tree.specs.declared.item.Param.{Param}
use Rattle.verilog_tree.specs.declared.expr.Expr.{Expr}
use Rattle.grammar_rules.specs.Rule.{empty, either, made}
use Rattle.verilog_grammar.specs.declared.kind.Kind.TheVariants as k
use Rattle.verilog_grammar.specs.Parts.{Phrased, only}
use Rattle.verilog_grammar.specs.Modules as g
use Rattle.verilog_items.specs.declared.declaration.Shape.{Shape}
use Rattle.verilog_items.specs.declared.port.Direction.{Direction}
use Rattle.verilog_items.specs.declared.port.PortHead.{PortHead}
use Rattle.verilog_items.specs.declared.port.Ports.{Ports}
use Rattle.verilog_items.specs.declared.port.Entry.{Entry}
use Rattle.verilog_items.specs.declared.port.Entry.TheVariants as entry
use Rattle.verilog_items.specs.declared.port.OpenPorts.{OpenPorts}
use Rattle.verilog_items.specs.declared.parameter.ParamType.{ParamType}
use Rattle.verilog_items.specs.declared.parameter.HeaderParam.{HeaderParam}
use Rattle.verilog_items.specs.declared.parameter.TypedParams.{TypedParams}

abbrev pub shape_view : Shape → g.Shape
shape_view s = (s.signed, range_option_view s.range)

abbrev pub direction_view : Direction → g.Direction
direction_view d = record { place = d.place; input = d.input; reg = d.reg }

abbrev pub head_view : PortHead → g.PortHead
head_view h = record { direction = direction_view h.direction; shape = shape_view h.shape; name = h.name }

abbrev pub entry_view : Entry → g.Entry
entry_view (entry.Port h) = g.new_port (head_view h)
entry_view (entry.Name name) = g.more_name name

-- the names of a port list, and the ports that it declares
abbrev pub ports_view : Ports → g.Ports
ports_view p = (p.names.items, items_view p.items.items)

-- the ports so far and those of the entries that follow
abbrev pub with_entries : OpenPorts → List g.Entry → g.Ports
with_entries p es = (p.names.items ++ map g.entry_name es, items_view p.items.items ++ g.port_items (head_view p.head) p.others.items es)

-- the words of parameters
abbrev pub parameter_words : List ℕ
parameter_words = code k.Parameter ∷ code k.Localparam ∷ []

-- [ "signed" | "integer" ]
abbrev pub type_word_rule : Phrased g.Word
type_word_rule = either (made g.signed_word (only k.Signed)) (either (made g.integer_word (only k.Integer)) (made g.no_word empty))

abbrev pub type_view : ParamType → g.ParamType
type_view k = record { signed = k.signed; integer = k.integer; range = range_option_view k.range }

abbrev pub type_option_view : Option ParamType → Option g.ParamType
type_option_view k = option_map type_view k

-- a name and its value
abbrev pub valued_view : Named × Expr → Named × t.Expr
valued_view p = (p.0, expr_view p.1)

-- the name and the value of a parameter
abbrev pub param_valued : Param → Named × t.Expr
param_valued p = (p.name, expr_view p.value)

abbrev pub param_valueds : List Param → List (Named × t.Expr)
param_valueds ps = map param_valued ps

abbrev pub header_param_view : HeaderParam → g.HeaderParam
header_param_view p = (type_option_view p.kind, (p.name, expr_view p.value))

-- the parameters so far and those that follow
abbrev pub with_params : TypedParams → List g.HeaderParam → List t.Param
with_params p ps = params_view p.all.items ++ g.header_params (type_view p.kind) ps
