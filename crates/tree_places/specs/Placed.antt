-- Where the statements of modules and the nodes of their expressions begin.
use Rattle.std.specs.Prelude.{◌≡◌, List, IfSome}
use Rattle.cov_host.specs.declared.place.Place.{Place}
use Rattle.design_model.specs.Design.{In}
use Rattle.verilog_lexer.specs.Tokens.{Lexeme}
use Rattle.verilog_tree.specs.Tree.{Declared, Expr, literal, identifier, bit_select, part_select, indexed_part, unary_operator, binary_operator, conditional, concatenation, replication, sign_cast, parentheses, Exprs, no_exprs, an_expr, Item, ItemForm, net_item, continuous_item, always_item, Module, Statement, sequential_block, if_statement, case_statement, for_loop, assignment, system_task, null_statement, Statements, no_statements, a_statement, CaseItems, no_items, case_item}

-- each node of the expression begins at such a place
abbrev mutual
  pub IsPlaced : (Place → Type 0) → Expr → Type 0
  IsPlaced P (literal p v) = P p
  IsPlaced P (identifier p x) = P p
  IsPlaced P (bit_select p of i) = P p × IsPlaced P of × IsPlaced P i
  IsPlaced P (part_select p of h l b) = P p × IsPlaced P of × IsPlaced P h × IsPlaced P l
  IsPlaced P (indexed_part p of b w up k) = P p × IsPlaced P of × IsPlaced P b × IsPlaced P w
  IsPlaced P (unary_operator p op a) = P p × IsPlaced P a
  IsPlaced P (binary_operator p op a b) = P p × IsPlaced P a × IsPlaced P b
  IsPlaced P (conditional p c a b) = P p × IsPlaced P c × IsPlaced P a × IsPlaced P b
  IsPlaced P (concatenation p es) = P p × ArePlaced P es
  IsPlaced P (replication p n es) = P p × IsPlaced P n × ArePlaced P es
  IsPlaced P (sign_cast p s a) = P p × IsPlaced P a
  IsPlaced P (parentheses p a) = P p × IsPlaced P a

  pub ArePlaced : (Place → Type 0) → Exprs → Type 0
  ArePlaced P no_exprs = Unit {0}
  ArePlaced P (an_expr e es) = IsPlaced P e × ArePlaced P es

-- each statement, and each node of its expressions, loop headers excepted
abbrev mutual
  pub IsPlacedBody : (Place → Type 0) → Statement → Type 0
  IsPlacedBody P (sequential_block p ss) = P p × ArePlacedBodies P ss
  IsPlacedBody P (if_statement p c s other) = P p × IsPlaced P c × IsPlacedBody P s × ArePlacedBodies P other
  IsPlacedBody P (case_statement p kind e is) = P p × IsPlaced P e × ArePlacedArms P is
  IsPlacedBody P (for_loop p h s) = P p × IsPlacedBody P s
  IsPlacedBody P (assignment p x blocking v) = P p × IsPlaced P x × IsPlaced P v
  IsPlacedBody P (system_task p) = P p
  IsPlacedBody P (null_statement p) = P p

  pub ArePlacedBodies : (Place → Type 0) → Statements → Type 0
  ArePlacedBodies P no_statements = Unit {0}
  ArePlacedBodies P (a_statement s ss) = IsPlacedBody P s × ArePlacedBodies P ss

  pub ArePlacedArms : (Place → Type 0) → CaseItems → Type 0
  ArePlacedArms P no_items = Unit {0}
  ArePlacedArms P (case_item labels s is) = ArePlaced P labels × IsPlacedBody P s × ArePlacedArms P is

-- a net that is declared with a value, and each node of the value
abbrev pub IsPlacedNet : (Place → Type 0) → Declared → Type 0
IsPlacedNet P d = P d.name.place × IfSome d.value (IsPlaced P)

-- the processes of an item
abbrev pub IsPlacedForm : (Place → Type 0) → ItemForm → Type 0
IsPlacedForm P (net_item i) = (d : Declared) → In d i.names → IsPlacedNet P d
IsPlacedForm P (continuous_item x v) = IsPlaced P x × IsPlaced P v
IsPlacedForm P (always_item w s) = IsPlacedBody P s
IsPlacedForm P _ = Unit {0}

-- the processes of the modules
abbrev pub ArePlacedModules : (Place → Type 0) → List Module → Type 0
ArePlacedModules P ms = (m : Module) → In m ms → (x : Item) → In x m.items → IsPlacedForm P x.form

-- a token is at the place
abbrev pub IsTokenPlace : List Lexeme → Place → Type 0
IsTokenPlace tokens p = (t : Lexeme) × In t tokens × (t.place ≡ p)
