-- How many line points and counted nodes an expression, a statement or an item has.
use Rattle.std.specs.Prelude.{ℕ, ◌+◌, Bool, true, false, not, ◌&&◌, List, [], ◌∷◌, Some, None, if◌then◌else◌}
use Rattle.verilog_tree.specs.Tree.{Expr, literal, identifier, bit_select, part_select, indexed_part, unary_operator, binary_operator, conditional, concatenation, replication, sign_cast, parentheses, Exprs, no_exprs, an_expr, Statement, sequential_block, if_statement, case_statement, for_loop, assignment, system_task, null_statement, Statements, no_statements, a_statement, CaseItems, no_items, case_item, Declared, ItemForm, net_item, continuous_item, always_item}
use Rattle.flat_design.specs.Scope.{Scope, names_thing}

-- without the parentheses around it
abbrev pub bare : Expr → Expr
bare (parentheses p a) = bare a
bare e = e

-- an operator with one or two operands
abbrev pub is_operator : Expr → Bool
is_operator (unary_operator p op a) = true
is_operator (binary_operator p op a b) = true
is_operator _ = false

-- the line points of a statement: each assignment, if, case and for
abbrev mutual
  pub lines : Statement → ℕ
  lines (sequential_block p ss) = all_lines ss
  lines (if_statement p c s other) = 1 + lines s + all_lines other
  lines (case_statement p kind e is) = 1 + item_lines is
  lines (for_loop p h s) = 1 + lines s
  lines (assignment p t blocking v) = 1
  lines (system_task p) = 0
  lines (null_statement p) = 0

  pub all_lines : Statements → ℕ
  all_lines no_statements = 0
  all_lines (a_statement s ss) = lines s + all_lines ss

  pub item_lines : CaseItems → ℕ
  item_lines no_items = 0
  item_lines (case_item labels s is) = lines s + item_lines is

-- counted nodes: each operator with one or two operands that names a signal or memory, and each condition that is no operator and names one
abbrev pub one_if : Bool → ℕ
one_if test = if test then 1 else 0

-- a condition that is a counted node of its own
abbrev pub is_counted_condition : Scope → Expr → Bool
is_counted_condition g c = not (is_operator (bare c)) && names_thing g c

abbrev mutual
  pub nodes : Scope → Expr → ℕ
  nodes g (literal p v) = 0
  nodes g (identifier p x) = 0
  nodes g (bit_select p of i) = nodes g of + nodes g i
  nodes g (part_select p of h l b) = nodes g of + nodes g h + nodes g l
  nodes g (indexed_part p of b w up k) = nodes g of + nodes g b + nodes g w
  nodes g (unary_operator p op a) = one_if (names_thing g a) + nodes g a
  nodes g (binary_operator p op a b) = one_if (names_thing g (binary_operator p op a b)) + nodes g a + nodes g b
  nodes g (conditional p c a b) = one_if (is_counted_condition g c) + nodes g c + nodes g a + nodes g b
  nodes g (concatenation p es) = all_nodes g es
  nodes g (replication p n es) = nodes g n + all_nodes g es
  nodes g (sign_cast p s a) = nodes g a
  nodes g (parentheses p a) = nodes g a

  pub all_nodes : Scope → Exprs → ℕ
  all_nodes g no_exprs = 0
  all_nodes g (an_expr e es) = nodes g e + all_nodes g es

-- the nodes of the condition of an if or ?:
abbrev pub condition_nodes : Scope → Expr → ℕ
condition_nodes g c = one_if (is_counted_condition g c) + nodes g c

-- the counted nodes of a statement, loop headers excepted
abbrev mutual
  pub statement_nodes : Scope → Statement → ℕ
  statement_nodes g (sequential_block p ss) = all_statement_nodes g ss
  statement_nodes g (if_statement p c s other) = condition_nodes g c + statement_nodes g s + all_statement_nodes g other
  statement_nodes g (case_statement p kind e is) = nodes g e + item_nodes g is
  statement_nodes g (for_loop p h s) = statement_nodes g s
  statement_nodes g (assignment p x blocking v) = nodes g x + nodes g v
  statement_nodes g (system_task p) = 0
  statement_nodes g (null_statement p) = 0

  pub all_statement_nodes : Scope → Statements → ℕ
  all_statement_nodes g no_statements = 0
  all_statement_nodes g (a_statement s ss) = statement_nodes g s + all_statement_nodes g ss

  pub item_nodes : Scope → CaseItems → ℕ
  item_nodes g no_items = 0
  item_nodes g (case_item labels s is) = all_nodes g labels + statement_nodes g s + item_nodes g is

-- the line points and counted nodes of an item
abbrev pub form_lines : ItemForm → ℕ
form_lines (always_item w s) = lines s
form_lines _ = 0

-- the counted nodes of a net's value
abbrev pub value_nodes : Scope → Declared → ℕ
value_nodes g d = elim d.value [ None ↦ 0 | Some e ↦ nodes g e ]

-- the same for each name of the item
abbrev pub values_nodes : Scope → List Declared → ℕ
values_nodes g [] = 0
values_nodes g (d ∷ ds) = value_nodes g d + values_nodes g ds

-- the counted nodes of an item
abbrev pub form_nodes : Scope → ItemForm → ℕ
form_nodes g (net_item i) = values_nodes g i.names
form_nodes g (continuous_item x v) = nodes g x + nodes g v
form_nodes g (always_item w s) = statement_nodes g s
form_nodes g _ = 0
