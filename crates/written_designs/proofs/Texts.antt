-- The line points and the counted nodes of a text are at the places of its statements and nodes.
use Rattle.std.proofs.Common.{◌+◌, ℕ, Bool, true, false, List, ◌++◌}
use Rattle.std.specs.Prelude.{codes}
use Rattle.cov_host.specs.declared.place.Place.{Place}
use Rattle.design_model.specs.Numbered.{LineAt, NodeAt, unary_text, binary_text}
use Rattle.flat_design.specs.Loops.{in_some_turn}
use Rattle.flat_design.specs.Numbering.{bare, condition_nodes, is_counted_condition, lines, nodes, all_nodes, one_if, statement_nodes}
use Rattle.flat_design.specs.Scope.{Scope, names_thing}
use Rattle.design_names.proofs.flat_laws.TextLines.{text_lines, all_text_lines, item_text_lines}
use Rattle.design_names.proofs.flat_laws.TextNodes.{a_node, node_if, text_nodes, all_text_nodes, condition_text, statement_text, statements_text, items_text}
use Rattle.grammar_rules.proofs.Holds.{AllOf}
use Rattle.design_names.proofs.parsed_modules.Lists.{all_append}
use Rattle.tree_places.specs.Placed.{IsPlaced, ArePlaced, IsPlacedBody, ArePlacedBodies, ArePlacedArms}
use Rattle.verilog_tree.specs.Tree.{Expr, literal, identifier, bit_select, part_select, indexed_part, unary_operator, binary_operator, conditional, concatenation, replication, sign_cast, parentheses, Exprs, no_exprs, an_expr, place_of, Statement, sequential_block, if_statement, case_statement, for_loop, assignment, system_task, null_statement, Statements, no_statements, a_statement, CaseItems, no_items, case_item}

module _ (P : Place → Type 0) where
  abbrev pub LineIsAt : LineAt → Type 0
  LineIsAt x = P x.place

  abbrev pub NodeIsAt : NodeAt → Type 0
  NodeIsAt x = P x.place

  two_at : (xs ys : List NodeAt) → AllOf NodeIsAt xs → AllOf NodeIsAt ys → AllOf NodeIsAt (xs ++ ys)
  two_at xs ys h k = all_append NodeIsAt xs ys h k

  three_at : (xs ys zs : List NodeAt) → AllOf NodeIsAt xs → AllOf NodeIsAt ys → AllOf NodeIsAt zs → AllOf NodeIsAt (xs ++ (ys ++ zs))
  three_at xs ys zs h k l = two_at xs (ys ++ zs) h (two_at ys zs k l)

  if_at : (test : Bool) (n : ℕ) (p : Place) (op : List ℕ) → P p → AllOf NodeIsAt (node_if test (a_node n p op))
  if_at true n p op h = (h, tt)
  if_at false n p op h = tt

  -- so is an expression without the parentheses around it
  bare_begins : (e : Expr) → IsPlaced P e → P (place_of (bare e))
  bare_begins (parentheses p a) h = bare_begins a h.1
  bare_begins (literal p v) h = h
  bare_begins (identifier p x) h = h
  bare_begins (bit_select p of i) h = h.0
  bare_begins (part_select p of a b k) h = h.0
  bare_begins (indexed_part p of a b up k) h = h.0
  bare_begins (unary_operator p op a) h = h.0
  bare_begins (binary_operator p op a b) h = h.0
  bare_begins (conditional p c a b) h = h.0
  bare_begins (concatenation p es) h = h.0
  bare_begins (replication p n es) h = h.0
  bare_begins (sign_cast p s a) h = h.0

  -- a condition, whose own nodes are at such places
  with_condition : (g : Scope) (c : Expr) (n : ℕ) → IsPlaced P c → AllOf NodeIsAt (text_nodes g c (n + one_if (is_counted_condition g c))) → AllOf NodeIsAt (condition_text g c n)
  with_condition g c n h k =
      let test = is_counted_condition g c in
      two_at (node_if test (a_node n (place_of (bare c)) (codes "value"))) _ (if_at test n (place_of (bare c)) (codes "value") (bare_begins c h)) k

  mutual
    pub nodes_at : (g : Scope) (e : Expr) (n : ℕ) → IsPlaced P e → AllOf NodeIsAt (text_nodes g e n)
    nodes_at g (literal p v) n h = tt
    nodes_at g (identifier p x) n h = tt
    nodes_at g (bit_select p of i) n h = two_at (text_nodes g of n) _ (nodes_at g of n h.1) (nodes_at g i (n + nodes g of) h.2)
    nodes_at g (part_select p of a b k) n h =
        three_at (text_nodes g of n) (text_nodes g a (n + nodes g of)) _ (nodes_at g of n h.1) (nodes_at g a (n + nodes g of) h.2) (nodes_at g b (n + nodes g of + nodes g a) h.3)
    nodes_at g (indexed_part p of a b up k) n h =
        three_at (text_nodes g of n) (text_nodes g a (n + nodes g of)) _ (nodes_at g of n h.1) (nodes_at g a (n + nodes g of) h.2) (nodes_at g b (n + nodes g of + nodes g a) h.3)
    nodes_at g (unary_operator p op a) n h =
        two_at (node_if (names_thing g a) (a_node n p (unary_text op))) _ (if_at (names_thing g a) n p (unary_text op) h.0) (nodes_at g a (n + one_if (names_thing g a)) h.1)
    nodes_at g (binary_operator p op a b) n h =
        let test = names_thing g (binary_operator p op a b) in
        three_at (node_if test (a_node n p (binary_text op))) (text_nodes g a (n + one_if test)) _ (if_at test n p (binary_text op) h.0) (nodes_at g a (n + one_if test) h.1) (nodes_at g b (n + one_if test + nodes g a) h.2)
    nodes_at g (conditional p c a b) n h =
        three_at (condition_text g c n) (text_nodes g a (n + condition_nodes g c)) _ (with_condition g c n h.1 (nodes_at g c (n + one_if (is_counted_condition g c)) h.1)) (nodes_at g a (n + condition_nodes g c) h.2) (nodes_at g b (n + condition_nodes g c + nodes g a) h.3)
    nodes_at g (concatenation p es) n h = all_nodes_at g es n h.1
    nodes_at g (replication p k es) n h = two_at (text_nodes g k n) _ (nodes_at g k n h.1) (all_nodes_at g es (n + nodes g k) h.2)
    nodes_at g (sign_cast p s a) n h = nodes_at g a n h.1
    nodes_at g (parentheses p a) n h = nodes_at g a n h.1

    pub all_nodes_at : (g : Scope) (es : Exprs) (n : ℕ) → ArePlaced P es → AllOf NodeIsAt (all_text_nodes g es n)
    all_nodes_at g no_exprs n h = tt
    all_nodes_at g (an_expr e es) n h = two_at (text_nodes g e n) _ (nodes_at g e n h.0) (all_nodes_at g es (n + nodes g e) h.1)

  condition_at : (g : Scope) (c : Expr) (n : ℕ) → IsPlaced P c → AllOf NodeIsAt (condition_text g c n)
  condition_at g c n h = with_condition g c n h (nodes_at g c (n + one_if (is_counted_condition g c)) h)

  mutual
    pub statement_at : (g : Scope) (s : Statement) (n : ℕ) → IsPlacedBody P s → AllOf NodeIsAt (statement_text g s n)
    statement_at g (sequential_block p ss) n h = statements_at g ss n h.1
    statement_at g (if_statement p c s other) n h =
        three_at (condition_text g c n) (statement_text g s (n + condition_nodes g c)) _ (condition_at g c n h.1) (statement_at g s (n + condition_nodes g c) h.2) (statements_at g other (n + condition_nodes g c + statement_nodes g s) h.3)
    statement_at g (case_statement p kind e is) n h = two_at (text_nodes g e n) _ (nodes_at g e n h.1) (items_at g is (n + nodes g e) h.2)
    statement_at g (for_loop p k s) n h = statement_at (in_some_turn k g) s n h.1
    statement_at g (assignment p x blocking v) n h = two_at (text_nodes g x n) _ (nodes_at g x n h.1) (nodes_at g v (n + nodes g x) h.2)
    statement_at g (system_task p) n h = tt
    statement_at g (null_statement p) n h = tt

    pub statements_at : (g : Scope) (ss : Statements) (n : ℕ) → ArePlacedBodies P ss → AllOf NodeIsAt (statements_text g ss n)
    statements_at g no_statements n h = tt
    statements_at g (a_statement s ss) n h = two_at (statement_text g s n) _ (statement_at g s n h.0) (statements_at g ss (n + statement_nodes g s) h.1)

    pub items_at : (g : Scope) (is : CaseItems) (n : ℕ) → ArePlacedArms P is → AllOf NodeIsAt (items_text g is n)
    items_at g no_items n h = tt
    items_at g (case_item labels s is) n h =
        three_at (all_text_nodes g labels n) (statement_text g s (n + all_nodes g labels)) _ (all_nodes_at g labels n h.0) (statement_at g s (n + all_nodes g labels) h.1) (items_at g is (n + all_nodes g labels + statement_nodes g s) h.2)

  lines_both : (xs ys : List LineAt) → AllOf LineIsAt xs → AllOf LineIsAt ys → AllOf LineIsAt (xs ++ ys)
  lines_both xs ys h k = all_append LineIsAt xs ys h k

  mutual
    pub lines_at : (s : Statement) (l : ℕ) → IsPlacedBody P s → AllOf LineIsAt (text_lines s l)
    lines_at (sequential_block p ss) l h = all_lines_at ss l h.1
    lines_at (if_statement p c s other) l h = (h.0, lines_both (text_lines s (l + 1)) _ (lines_at s (l + 1) h.2) (all_lines_at other (l + 1 + lines s) h.3))
    lines_at (case_statement p kind e is) l h = (h.0, item_lines_at is (l + 1) h.2)
    lines_at (for_loop p k s) l h = (h.0, lines_at s (l + 1) h.1)
    lines_at (assignment p x blocking v) l h = (h.0, tt)
    lines_at (system_task p) l h = tt
    lines_at (null_statement p) l h = tt

    pub all_lines_at : (ss : Statements) (l : ℕ) → ArePlacedBodies P ss → AllOf LineIsAt (all_text_lines ss l)
    all_lines_at no_statements l h = tt
    all_lines_at (a_statement s ss) l h = lines_both (text_lines s l) _ (lines_at s l h.0) (all_lines_at ss (l + lines s) h.1)

    pub item_lines_at : (is : CaseItems) (l : ℕ) → ArePlacedArms P is → AllOf LineIsAt (item_text_lines is l)
    item_lines_at no_items l h = tt
    item_lines_at (case_item labels s is) l h = lines_both (text_lines s l) _ (lines_at s l h.1) (item_lines_at is (l + lines s) h.2)
