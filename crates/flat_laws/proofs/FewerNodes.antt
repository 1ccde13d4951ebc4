-- In a scope with fewer signals and memories an expression or a statement has no more counted nodes.
use Rattle.std.proofs.Common.{◌≡◌, ◌≤◌, ℕ, Bool, true, false, not, ◌&&◌, ◌||◌, List, [], ◌∷◌, refl, arith}
use Rattle.std.specs.List.{list_any}
use Rattle.std.proofs.lemmas.Bool.{false≢true}
use Rattle.verilog_tree.specs.declared.item.Named.{Named}
use Rattle.verilog_tree.specs.Tree.{Expr, literal, identifier, bit_select, part_select, indexed_part, unary_operator, binary_operator, conditional, concatenation, replication, sign_cast, parentheses, Exprs, no_exprs, an_expr, Statement, sequential_block, if_statement, case_statement, for_loop, assignment, system_task, null_statement, Statements, no_statements, a_statement, CaseItems, no_items, case_item}
use Rattle.flat_design.specs.Identifiers.{identifiers}
use Rattle.flat_design.specs.Numbering.{bare, is_operator, one_if, nodes, all_nodes, is_counted_condition, statement_nodes, all_statement_nodes, item_nodes}
use Rattle.flat_design.specs.Scope.{Scope, names_thing, look_up, is_thing_entry}

-- each signal or memory of the first scope is one of the second
abbrev pub HasFewer : Scope → Scope → Type 0
HasFewer g h = (x : List ℕ) → is_thing_entry (look_up g x) ≡ true → is_thing_entry (look_up h x) ≡ true

-- one test implies the other
record Implies (a b : Bool) : Type 0 where
  so : a ≡ true → b ≡ true

implies_one : (a b : Bool) → Implies a b → one_if a ≤ one_if b
implies_one true true h = omega arith
implies_one false b h = omega arith
implies_one true false h = absurd (false≢true (h.so refl))

implies_or : (a b c d : Bool) → Implies a b → Implies c d → Implies (a || c) (b || d)
implies_or true b c d h k = record { so = λ e. rw (h.so refl) refl }
implies_or false true c d h k = record { so = λ e. refl }
implies_or false false c d h k = k

implies_and : (t a b : Bool) → Implies a b → Implies (t && a) (t && b)
implies_and true a b h = h
implies_and false a b h = record { so = λ e. e }

any_fewer : (g h : Scope) → HasFewer g h → (xs : List Named) → Implies (list_any (λ x. is_thing_entry (look_up g x.name)) xs) (list_any (λ x. is_thing_entry (look_up h x.name)) xs)
any_fewer g h f [] = record { so = λ e. e }
any_fewer g h f (x ∷ xs) = implies_or (is_thing_entry (look_up g x.name)) (is_thing_entry (look_up h x.name)) _ _ (record { so = f x.name }) (any_fewer g h f xs)

things_fewer : (g h : Scope) → HasFewer g h → (e : Expr) → one_if (names_thing g e) ≤ one_if (names_thing h e)
things_fewer g h f e = implies_one (names_thing g e) (names_thing h e) (any_fewer g h f (identifiers e))

condition_fewer : (g h : Scope) → HasFewer g h → (e : Expr) → one_if (is_counted_condition g e) ≤ one_if (is_counted_condition h e)
condition_fewer g h f e = implies_one (is_counted_condition g e) (is_counted_condition h e) (implies_and (not (is_operator (bare e))) (names_thing g e) (names_thing h e) (any_fewer g h f (identifiers e)))

mutual
  pub nodes_fewer : (g h : Scope) → HasFewer g h → (e : Expr) → nodes g e ≤ nodes h e
  nodes_fewer g h f (literal p v) = omega arith
  nodes_fewer g h f (identifier p x) = omega arith
  nodes_fewer g h f (bit_select p of i) = omega (arith, nodes_fewer g h f of, nodes_fewer g h f i)
  nodes_fewer g h f (part_select p of a b k) = omega (arith, nodes_fewer g h f of, nodes_fewer g h f a, nodes_fewer g h f b)
  nodes_fewer g h f (indexed_part p of a b up k) = omega (arith, nodes_fewer g h f of, nodes_fewer g h f a, nodes_fewer g h f b)
  nodes_fewer g h f (unary_operator p op a) = omega (arith, things_fewer g h f a, nodes_fewer g h f a)
  nodes_fewer g h f (binary_operator p op a b) = omega (arith, things_fewer g h f (binary_operator p op a b), nodes_fewer g h f a, nodes_fewer g h f b)
  nodes_fewer g h f (conditional p c a b) = omega (arith, condition_fewer g h f c, nodes_fewer g h f c, nodes_fewer g h f a, nodes_fewer g h f b)
  nodes_fewer g h f (concatenation p es) = all_nodes_fewer g h f es
  nodes_fewer g h f (replication p n es) = omega (arith, nodes_fewer g h f n, all_nodes_fewer g h f es)
  nodes_fewer g h f (sign_cast p s a) = nodes_fewer g h f a
  nodes_fewer g h f (parentheses p a) = nodes_fewer g h f a

  pub all_nodes_fewer : (g h : Scope) → HasFewer g h → (es : Exprs) → all_nodes g es ≤ all_nodes h es
  all_nodes_fewer g h f no_exprs = omega arith
  all_nodes_fewer g h f (an_expr e es) = omega (arith, nodes_fewer g h f e, all_nodes_fewer g h f es)

mutual
  pub statement_fewer : (g h : Scope) → HasFewer g h → (x : Statement) → statement_nodes g x ≤ statement_nodes h x
  statement_fewer g h f (sequential_block p xs) = statements_fewer g h f xs
  statement_fewer g h f (if_statement p c x other) = omega (arith, condition_fewer g h f c, nodes_fewer g h f c, statement_fewer g h f x, statements_fewer g h f other)
  statement_fewer g h f (case_statement p kind e is) = omega (arith, nodes_fewer g h f e, items_fewer g h f is)
  statement_fewer g h f (for_loop p k x) = statement_fewer g h f x
  statement_fewer g h f (assignment p x blocking v) = omega (arith, nodes_fewer g h f x, nodes_fewer g h f v)
  statement_fewer g h f (system_task p) = omega arith
  statement_fewer g h f (null_statement p) = omega arith

  pub statements_fewer : (g h : Scope) → HasFewer g h → (xs : Statements) → all_statement_nodes g xs ≤ all_statement_nodes h xs
  statements_fewer g h f no_statements = omega arith
  statements_fewer g h f (a_statement x xs) = omega (arith, statement_fewer g h f x, statements_fewer g h f xs)

  pub items_fewer : (g h : Scope) → HasFewer g h → (is : CaseItems) → item_nodes g is ≤ item_nodes h is
  items_fewer g h f no_items = omega arith
  items_fewer g h f (case_item labels x is) = omega (arith, all_nodes_fewer g h f labels, statement_fewer g h f x, items_fewer g h f is)
