-- The literals in a module.
use Rattle.std.specs.Prelude.{List, [], ◌∷◌, ◌++◌, flat_map, Option, Some, None}
use Rattle.four_state.specs.Vector.{Vector}
use Rattle.verilog_tree.specs.Tree.{Expr, literal, identifier, bit_select, part_select, indexed_part, unary_operator, binary_operator, conditional, concatenation, replication, sign_cast, parentheses, Exprs, no_exprs, an_expr, Statement, sequential_block, if_statement, case_statement, for_loop, assignment, system_task, null_statement, Statements, no_statements, a_statement, CaseItems, no_items, case_item, Given, ItemForm, net_item, parameter_item, continuous_item, always_item, instance_item, Module}

-- the literals of an expression
abbrev mutual
  pub literals : Expr → List Vector
  literals (literal p v) = v ∷ []
  literals (identifier p x) = []
  literals (bit_select p of i) = literals of ++ literals i
  literals (part_select p of h l b) = literals of ++ literals h ++ literals l
  literals (indexed_part p of b w up k) = literals of ++ literals b ++ literals w
  literals (unary_operator p op a) = literals a
  literals (binary_operator p op a b) = literals a ++ literals b
  literals (conditional p c a b) = literals c ++ literals a ++ literals b
  literals (concatenation p es) = all_literals es
  literals (replication p n es) = literals n ++ all_literals es
  literals (sign_cast p s a) = literals a
  literals (parentheses p a) = literals a

  pub all_literals : Exprs → List Vector
  all_literals no_exprs = []
  all_literals (an_expr e es) = literals e ++ all_literals es

-- those of a statement, of which loop headers only become numbers
abbrev mutual
  pub body_literals : Statement → List Vector
  body_literals (sequential_block p ss) = bodies_literals ss
  body_literals (if_statement p c s other) = literals c ++ body_literals s ++ bodies_literals other
  body_literals (case_statement p kind e is) = literals e ++ items_literals is
  body_literals (for_loop p h s) = body_literals s
  body_literals (assignment p x blocking v) = literals x ++ literals v
  body_literals (system_task p) = []
  body_literals (null_statement p) = []

  pub bodies_literals : Statements → List Vector
  bodies_literals no_statements = []
  bodies_literals (a_statement s ss) = body_literals s ++ bodies_literals ss

  pub items_literals : CaseItems → List Vector
  items_literals no_items = []
  items_literals (case_item labels s is) = all_literals labels ++ body_literals s ++ items_literals is

-- those of an expression that may be absent
abbrev pub option_literals : Option Expr → List Vector
option_literals None = []
option_literals (Some e) = literals e

-- those of connections and overrides
abbrev pub given_literals : List Given → List Vector
given_literals cs = flat_map (λ c. option_literals c.value) cs

-- those of an item, of which ranges only become numbers
abbrev pub item_literals : ItemForm → List Vector
item_literals (net_item v) = flat_map (λ d. option_literals d.value) v.names
item_literals (parameter_item ps) = flat_map (λ p. literals p.value) ps
item_literals (continuous_item x v) = literals x ++ literals v
item_literals (always_item w s) = body_literals s
item_literals (instance_item i) = given_literals i.overrides ++ flat_map (λ o. given_literals o.given) i.ones
item_literals _ = []

-- those of a module
abbrev pub literals_of : Module → List Vector
literals_of m = flat_map (λ p. literals p.value) m.params ++ flat_map (λ i. item_literals i.form) m.items
