-- Modules as plain trees: declarations, statements and expressions with the places of their first tokens.
use Rattle.std.specs.Prelude.{ℕ, Bool, List, [], ◌∷◌, Option}
use Rattle.cov_host.specs.declared.place.Place.{Place}
use Rattle.four_state.specs.Vector.{Vector}
use Rattle.four_state.specs.declared.operator.Binary.{Binary}
use Rattle.four_state.specs.declared.operator.CaseKind.{CaseKind}
use Rattle.four_state.specs.declared.operator.Unary.{Unary}
pub use Rattle.verilog_tree.specs.declared.item.Named.{Named}
pub use Rattle.verilog_tree.specs.declared.item.When.{When}

mutual
  pub data Expr : Type 0 where
    literal : Place → Vector → Expr
    identifier : Place → List ℕ → Expr
    bit_select : Place → Expr → Expr → Expr  -- x[i], or a word of a memory
    part_select : Place → Expr → Expr → Expr → Place → Expr  -- x[h:l]; last the place of the bracket
    indexed_part : Place → Expr → Expr → Expr → Bool → Place → Expr  -- x[b +: w], or with false x[b -: w]
    unary_operator : Place → Unary → Expr → Expr
    binary_operator : Place → Binary → Expr → Expr → Expr
    conditional : Place → Expr → Expr → Expr → Expr  -- c ? a : b
    concatenation : Place → Exprs → Expr
    replication : Place → Expr → Exprs → Expr
    sign_cast : Place → Bool → Expr → Expr  -- $signed or $unsigned
    parentheses : Place → Expr → Expr

  pub data Exprs : Type 0 where
    no_exprs : Exprs
    an_expr : Expr → Exprs → Exprs

-- [high:low] with the place of the bracket
pub record RangeExpr : Type 0 where
  pub high : Expr
  pub low : Expr
  pub bracket : Place

-- for (name = first; test; target = step), with the place of the for
pub record Header : Type 0 where
  pub place : Place
  pub name : Expr
  pub first : Expr
  pub test : Expr
  pub target : Expr
  pub step : Expr

mutual
  pub data Statement : Type 0 where
    sequential_block : Place → Statements → Statement
    if_statement : Place → Expr → Statement → Statements → Statement  -- the last has the else statement, if there is one
    case_statement : Place → CaseKind → Expr → CaseItems → Statement
    for_loop : Place → Header → Statement → Statement
    assignment : Place → Expr → Bool → Expr → Statement  -- with true a blocking one
    system_task : Place → Statement
    null_statement : Place → Statement

  pub data Statements : Type 0 where
    no_statements : Statements
    a_statement : Statement → Statements → Statements

  -- an item without labels is the default
  pub data CaseItems : Type 0 where
    no_items : CaseItems
    case_item : Exprs → Statement → CaseItems → CaseItems

-- a parameter or localparam
pub record Param : Type 0 where
  pub name : Named
  pub local : Bool
  pub signed : Bool
  pub integer : Bool
  pub range : Option RangeExpr
  pub value : Expr

-- a declared net or variable, with its initial value, or a memory with the range of its words
pub record Declared : Type 0 where
  pub name : Named
  pub value : Option Expr
  pub words : Option RangeExpr

-- a connection or an override, by name or by position; without value an empty connection
pub record Given : Type 0 where
  pub name : Option Named
  pub value : Option Expr

-- one of the instances that an item names, with its connections
pub record One : Type 0 where
  pub name : Named
  pub given : List Given

-- input or output
pub record PortItem : Type 0 where
  pub input : Bool
  pub reg : Bool
  pub signed : Bool
  pub range : Option RangeExpr
  pub names : List Named

-- wire or reg
pub record VectorItem : Type 0 where
  pub signed : Bool
  pub range : Option RangeExpr
  pub names : List Declared

-- instances of a module, with their parameter overrides
pub record InstanceItem : Type 0 where
  pub of_module : Named
  pub overrides : List Given
  pub ones : List One

-- the kinds of module items
pub data ItemForm : Type 0 where
  port_item : PortItem → ItemForm
  net_item : VectorItem → ItemForm
  variable_item : VectorItem → ItemForm
  integer_item : List Declared → ItemForm
  parameter_item : List Param → ItemForm
  continuous_item : Expr → Expr → ItemForm  -- assign target = value
  always_item : When → Statement → ItemForm
  initial_item : Statement → ItemForm
  instance_item : InstanceItem → ItemForm

-- a module item with the place of its first token
pub record Item : Type 0 where
  pub place : Place
  pub form : ItemForm

-- a module: the parameters of its header, the names of its port list, and its items; ports declared in the header come first among the items
pub record Module : Type 0 where
  pub name : Named
  pub params : List Param
  pub ports : List Named
  pub items : List Item

-- a list of expressions
abbrev pub exprs_of : List Expr → Exprs
exprs_of [] = no_exprs
exprs_of (e ∷ es) = an_expr e (exprs_of es)

-- a list of statements
abbrev pub statements_of : List Statement → Statements
statements_of [] = no_statements
statements_of (s ∷ ss) = a_statement s (statements_of ss)

-- an arm of a case: its labels and its body
pub record CaseArm : Type 0 where
  pub labels : List Expr
  pub body : Statement

-- a list of arms
abbrev pub arms_of : List CaseArm → CaseItems
arms_of [] = no_items
arms_of (a ∷ others) = case_item (exprs_of a.labels) a.body (arms_of others)

-- the place of the first token
abbrev pub place_of : Expr → Place
place_of (literal p v) = p
place_of (identifier p x) = p
place_of (bit_select p of i) = p
place_of (part_select p of h l b) = p
place_of (indexed_part p of b w up k) = p
place_of (unary_operator p op a) = p
place_of (binary_operator p op a b) = p
place_of (conditional p c a b) = p
place_of (concatenation p es) = p
place_of (replication p n es) = p
place_of (sign_cast p s a) = p
place_of (parentheses p a) = p
