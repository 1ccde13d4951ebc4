-- How many counted nodes a statement has does not depend on the values of loop variables.
use Rattle.std.proofs.Common.{◌≡◌, refl, ap, not, ◌&&◌, List, [], ◌∷◌}
use Rattle.std.specs.List.{list_any}
use Rattle.verilog_tree.specs.declared.item.Named.{Named}
use Rattle.verilog_tree.specs.Tree.{Expr, literal, identifier, bit_select, part_select, indexed_part, unary_operator, binary_operator, conditional, concatenation, replication, sign_cast, parentheses, Exprs, no_exprs, an_expr, Statement, sequential_block, if_statement, case_statement, for_loop, assignment, system_task, null_statement, Statements, no_statements, a_statement, CaseItems, no_items, case_item}
use Rattle.flat_design.specs.Identifiers.{identifiers}
use Rattle.flat_laws.specs.Laws.{HaveSameThings}
use Rattle.flat_design.specs.Numbering.{bare, is_operator, nodes, all_nodes, is_counted_condition, statement_nodes, all_statement_nodes, item_nodes}
use Rattle.flat_design.specs.Scope.{Scope, names_thing, look_up, is_thing_entry}

same_any : (g h : Scope) → HaveSameThings g h → (xs : List Named) → list_any (λ x. is_thing_entry (look_up g x.name)) xs ≡ list_any (λ x. is_thing_entry (look_up h x.name)) xs
same_any g h s [] = refl
same_any g h s (x ∷ xs) = rw (s x.name, same_any g h s xs)

pub same_things : (g h : Scope) → HaveSameThings g h → (e : Expr) → names_thing g e ≡ names_thing h e
same_things g h s e = same_any g h s (identifiers e)

pub same_condition : (g h : Scope) → HaveSameThings g h → (e : Expr) → is_counted_condition g e ≡ is_counted_condition h e
same_condition g h s e = ap (λ b. not (is_operator (bare e)) && b) (same_things g h s e)

mutual
  pub same_nodes : (g h : Scope) → HaveSameThings g h → (e : Expr) → nodes g e ≡ nodes h e
  same_nodes g h s (literal p v) = refl
  same_nodes g h s (identifier p x) = refl
  same_nodes g h s (bit_select p of i) = rw (same_nodes g h s of, same_nodes g h s i)
  same_nodes g h s (part_select p of a b k) = rw (same_nodes g h s of, same_nodes g h s a, same_nodes g h s b)
  same_nodes g h s (indexed_part p of a b up k) = rw (same_nodes g h s of, same_nodes g h s a, same_nodes g h s b)
  same_nodes g h s (unary_operator p op a) = rw (same_things g h s a, same_nodes g h s a)
  same_nodes g h s (binary_operator p op a b) = rw (same_things g h s (binary_operator p op a b), same_nodes g h s a, same_nodes g h s b)
  same_nodes g h s (conditional p c a b) = rw (same_condition g h s c, same_nodes g h s c, same_nodes g h s a, same_nodes g h s b)
  same_nodes g h s (concatenation p es) = same_all_nodes g h s es
  same_nodes g h s (replication p n es) = rw (same_nodes g h s n, same_all_nodes g h s es)
  same_nodes g h s (sign_cast p b a) = same_nodes g h s a
  same_nodes g h s (parentheses p a) = same_nodes g h s a

  pub same_all_nodes : (g h : Scope) → HaveSameThings g h → (es : Exprs) → all_nodes g es ≡ all_nodes h es
  same_all_nodes g h s no_exprs = refl
  same_all_nodes g h s (an_expr e es) = rw (same_nodes g h s e, same_all_nodes g h s es)

mutual
  pub same_statement_nodes : (g h : Scope) → HaveSameThings g h → (x : Statement) → statement_nodes g x ≡ statement_nodes h x
  same_statement_nodes g h s (sequential_block p xs) = same_statements_nodes g h s xs
  same_statement_nodes g h s (if_statement p c x other) = rw (same_condition g h s c, same_nodes g h s c, same_statement_nodes g h s x, same_statements_nodes g h s other)
  same_statement_nodes g h s (case_statement p kind e is) = rw (same_nodes g h s e, same_item_nodes g h s is)
  same_statement_nodes g h s (for_loop p k x) = same_statement_nodes g h s x
  same_statement_nodes g h s (assignment p x blocking v) = rw (same_nodes g h s x, same_nodes g h s v)
  same_statement_nodes g h s (system_task p) = refl
  same_statement_nodes g h s (null_statement p) = refl

  pub same_statements_nodes : (g h : Scope) → HaveSameThings g h → (xs : Statements) → all_statement_nodes g xs ≡ all_statement_nodes h xs
  same_statements_nodes g h s no_statements = refl
  same_statements_nodes g h s (a_statement x xs) = rw (same_statement_nodes g h s x, same_statements_nodes g h s xs)

  pub same_item_nodes : (g h : Scope) → HaveSameThings g h → (is : CaseItems) → item_nodes g is ≡ item_nodes h is
  same_item_nodes g h s no_items = refl
  same_item_nodes g h s (case_item labels x is) = rw (same_all_nodes g h s labels, same_statement_nodes g h s x, same_item_nodes g h s is)
