-- Where fewer names mean signals and memories, no more nodes are counted.
use Rattle.std.proofs.Common.{◌≤◌, ℕ, Bool, true, false, not, ◌&&◌, ◌||◌, if◌then◌else◌, List, [], ◌∷◌, Option, Some, arith}
use Rattle.std.specs.List.{list_any}
use Rattle.std.specs.Prelude.{bytes_eq}
use Rattle.four_state.specs.Vector.{Vector}
use Rattle.verilog_tree.specs.declared.item.Named.{Named}
use Rattle.verilog_tree.specs.Tree.{Expr, literal, identifier, bit_select, part_select, indexed_part, unary_operator, binary_operator, conditional, concatenation, replication, sign_cast, parentheses, Exprs, no_exprs, an_expr, Statement, sequential_block, if_statement, case_statement, for_loop, assignment, system_task, null_statement, Statements, no_statements, a_statement, CaseItems, no_items, case_item}
use Rattle.flat_design.specs.Identifiers.{identifiers}
use Rattle.flat_design.specs.Numbering.{bare, is_operator, one_if, is_counted_condition, nodes, all_nodes, statement_nodes, all_statement_nodes, item_nodes}
use Rattle.flat_design.specs.Scope.{Scope, look_up, is_thing_entry, names_thing, with_turn}
use Rattle.flat_design.specs.declared.entry.Entry.{Entry}
use Rattle.flat_design.specs.declared.entry.Entry.TheVariants.{Turn}

or_fewer : (a b c d : Bool) → one_if a ≤ one_if b → one_if c ≤ one_if d → one_if (a || c) ≤ one_if (b || d)
or_fewer true true c d p q = omega arith
or_fewer true false c d p q = absurd (omega (arith, p))
or_fewer false true true d p q = omega arith
or_fewer false true false d p q = omega arith
or_fewer false false c d p q = q

and_fewer : (a b c : Bool) → one_if b ≤ one_if c → one_if (a && b) ≤ one_if (a && c)
and_fewer true b c p = p
and_fewer false b c p = omega arith

module _ (h g : Scope) (fewer : (x : List ℕ) → one_if (is_thing_entry (look_up h x)) ≤ one_if (is_thing_entry (look_up g x))) where
  fewer_any : (xs : List Named) → one_if (list_any (λ x. is_thing_entry (look_up h x.name)) xs) ≤ one_if (list_any (λ x. is_thing_entry (look_up g x.name)) xs)
  fewer_any [] = omega arith
  fewer_any (x ∷ xs) =
      or_fewer (is_thing_entry (look_up h x.name)) (is_thing_entry (look_up g x.name)) (list_any (λ y. is_thing_entry (look_up h y.name)) xs) (list_any (λ y. is_thing_entry (look_up g y.name)) xs) (fewer x.name) (fewer_any xs)

  fewer_things : (e : Expr) → one_if (names_thing h e) ≤ one_if (names_thing g e)
  fewer_things e = fewer_any (identifiers e)

  fewer_conditions : (e : Expr) → one_if (is_counted_condition h e) ≤ one_if (is_counted_condition g e)
  fewer_conditions e = and_fewer (not (is_operator (bare e))) (names_thing h e) (names_thing g e) (fewer_things e)

  mutual
    fewer_nodes : (e : Expr) → nodes h e ≤ nodes g e
    fewer_nodes (literal p v) = omega arith
    fewer_nodes (identifier p x) = omega arith
    fewer_nodes (bit_select p of i) = omega (arith, fewer_nodes of, fewer_nodes i)
    fewer_nodes (part_select p of a b k) = omega (arith, fewer_nodes of, fewer_nodes a, fewer_nodes b)
    fewer_nodes (indexed_part p of a b up k) = omega (arith, fewer_nodes of, fewer_nodes a, fewer_nodes b)
    fewer_nodes (unary_operator p op a) = omega (arith, fewer_things a, fewer_nodes a)
    fewer_nodes (binary_operator p op a b) = omega (arith, fewer_things (binary_operator p op a b), fewer_nodes a, fewer_nodes b)
    fewer_nodes (conditional p c a b) = omega (arith, fewer_conditions c, fewer_nodes c, fewer_nodes a, fewer_nodes b)
    fewer_nodes (concatenation p es) = fewer_all_nodes es
    fewer_nodes (replication p n es) = omega (arith, fewer_nodes n, fewer_all_nodes es)
    fewer_nodes (sign_cast p s a) = fewer_nodes a
    fewer_nodes (parentheses p a) = fewer_nodes a

    fewer_all_nodes : (es : Exprs) → all_nodes h es ≤ all_nodes g es
    fewer_all_nodes no_exprs = omega arith
    fewer_all_nodes (an_expr e es) = omega (arith, fewer_nodes e, fewer_all_nodes es)

  mutual
    fewer_statement_nodes : (s : Statement) → statement_nodes h s ≤ statement_nodes g s
    fewer_statement_nodes (sequential_block p ss) = fewer_statements_nodes ss
    fewer_statement_nodes (if_statement p c s other) = omega (arith, fewer_conditions c, fewer_nodes c, fewer_statement_nodes s, fewer_statements_nodes other)
    fewer_statement_nodes (case_statement p kind e is) = omega (arith, fewer_nodes e, fewer_item_nodes is)
    fewer_statement_nodes (for_loop p k s) = fewer_statement_nodes s
    fewer_statement_nodes (assignment p x blocking v) = omega (arith, fewer_nodes x, fewer_nodes v)
    fewer_statement_nodes (system_task p) = omega arith
    fewer_statement_nodes (null_statement p) = omega arith

    fewer_statements_nodes : (ss : Statements) → all_statement_nodes h ss ≤ all_statement_nodes g ss
    fewer_statements_nodes no_statements = omega arith
    fewer_statements_nodes (a_statement s ss) = omega (arith, fewer_statement_nodes s, fewer_statements_nodes ss)

    fewer_item_nodes : (is : CaseItems) → item_nodes h is ≤ item_nodes g is
    fewer_item_nodes no_items = omega arith
    fewer_item_nodes (case_item labels s is) = omega (arith, fewer_all_nodes labels, fewer_statement_nodes s, fewer_item_nodes is)

no_thing_then : (b : Bool) (v : Vector) (o : Option Entry) → one_if (is_thing_entry (if b then Some (Turn v) else o)) ≤ one_if (is_thing_entry o)
no_thing_then true v o = omega arith
no_thing_then false v o = omega arith

-- a statement has no more counted nodes in a turn of a loop than around it
pub turn_nodes : (x : List ℕ) (v : Vector) (g : Scope) (s : Statement) → statement_nodes (with_turn x v g) s ≤ statement_nodes g s
turn_nodes x v g s = fewer_statement_nodes (with_turn x v g) g (λ y. no_thing_then (bytes_eq y x) v (look_up g y)) s
