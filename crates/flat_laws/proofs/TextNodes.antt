-- The counted nodes that are in the text of an expression or a statement, each with a number of its own.
use Rattle.std.proofs.Common.{◌≡◌, ℕ, ◌+◌, Bool, true, false, if◌then◌else◌, List, [], ◌∷◌, ◌++◌, refl, arith}
use Rattle.std.specs.Prelude.{bytes_eq, codes, Some}
use Rattle.std.proofs.lemmas.Bool.{false≢true}
use Rattle.cov_host.specs.declared.place.Place.{Place}
use Rattle.four_state.specs.Vector.{Vector}
use Rattle.four_state.specs.declared.bit.Bit.TheVariants.{X}
use Rattle.design_model.specs.Numbered.{NodeAt, unary_text, binary_text}
use Rattle.verilog_tree.specs.Tree.{Expr, literal, identifier, bit_select, part_select, indexed_part, unary_operator, binary_operator, conditional, concatenation, replication, sign_cast, parentheses, Exprs, no_exprs, an_expr, place_of, Header, Statement, sequential_block, if_statement, case_statement, for_loop, assignment, system_task, null_statement, Statements, no_statements, a_statement, CaseItems, no_items, case_item}
use Rattle.flat_design.specs.Bodies.{in_turn}
use Rattle.flat_design.specs.Identifiers.{base_name}
use Rattle.flat_design.specs.Loops.{in_some_turn}
use Rattle.flat_design.specs.Numbering.{bare, one_if, nodes, all_nodes, is_counted_condition, condition_nodes, statement_nodes, all_statement_nodes, item_nodes}
use Rattle.flat_design.specs.Scope.{Scope, names_thing, look_up, is_thing_entry}
use Rattle.flat_design.specs.declared.entry.Entry.TheVariants.{Turn as a_turn}
use Rattle.flat_laws.specs.Laws.{HaveSameThings}
use Rattle.flat_laws.proofs.FewerNodes.{HasFewer, statement_fewer}
use Rattle.flat_laws.proofs.NodeCounts.{same_things, same_condition, same_nodes, same_all_nodes, same_statement_nodes}
use Rattle.flat_laws.proofs.Once.{Once, once_none, once_one, once_join, once_wider}

-- a node of this number, place and text
abbrev pub a_node : ℕ → Place → List ℕ → NodeAt
a_node n p op = record { node = n; place = p; op = op }

-- the node, where it is counted
abbrev pub node_if : Bool → NodeAt → List NodeAt
node_if test x = if test then x ∷ [] else []

-- the counted nodes of an expression that are numbered from n on
abbrev mutual
  pub text_nodes : Scope → Expr → ℕ → List NodeAt
  text_nodes g (literal p v) n = []
  text_nodes g (identifier p x) n = []
  text_nodes g (bit_select p of i) n = text_nodes g of n ++ text_nodes g i (n + nodes g of)
  text_nodes g (part_select p of h l b) n = text_nodes g of n ++ (text_nodes g h (n + nodes g of) ++ text_nodes g l (n + nodes g of + nodes g h))
  text_nodes g (indexed_part p of b w up k) n = text_nodes g of n ++ (text_nodes g b (n + nodes g of) ++ text_nodes g w (n + nodes g of + nodes g b))
  text_nodes g (unary_operator p op a) n = node_if (names_thing g a) (a_node n p (unary_text op)) ++ text_nodes g a (n + one_if (names_thing g a))
  text_nodes g (binary_operator p op a b) n =
      node_if (names_thing g (binary_operator p op a b)) (a_node n p (binary_text op)) ++ (text_nodes g a (n + one_if (names_thing g (binary_operator p op a b))) ++ text_nodes g b (n + one_if (names_thing g (binary_operator p op a b)) + nodes g a))
  text_nodes g (conditional p c a b) n =
      (node_if (is_counted_condition g c) (a_node n (place_of (bare c)) (codes "value")) ++ text_nodes g c (n + one_if (is_counted_condition g c))) ++ (text_nodes g a (n + condition_nodes g c) ++ text_nodes g b (n + condition_nodes g c + nodes g a))
  text_nodes g (concatenation p es) n = all_text_nodes g es n
  text_nodes g (replication p k es) n = text_nodes g k n ++ all_text_nodes g es (n + nodes g k)
  text_nodes g (sign_cast p s a) n = text_nodes g a n
  text_nodes g (parentheses p a) n = text_nodes g a n

  pub all_text_nodes : Scope → Exprs → ℕ → List NodeAt
  all_text_nodes g no_exprs n = []
  all_text_nodes g (an_expr e es) n = text_nodes g e n ++ all_text_nodes g es (n + nodes g e)

-- those of a condition
abbrev pub condition_text : Scope → Expr → ℕ → List NodeAt
condition_text g c n = node_if (is_counted_condition g c) (a_node n (place_of (bare c)) (codes "value")) ++ text_nodes g c (n + one_if (is_counted_condition g c))

-- those of a statement, of a loop once
abbrev mutual
  pub statement_text : Scope → Statement → ℕ → List NodeAt
  statement_text g (sequential_block p ss) n = statements_text g ss n
  statement_text g (if_statement p c s other) n = condition_text g c n ++ (statement_text g s (n + condition_nodes g c) ++ statements_text g other (n + condition_nodes g c + statement_nodes g s))
  statement_text g (case_statement p kind e is) n = text_nodes g e n ++ items_text g is (n + nodes g e)
  statement_text g (for_loop p h s) n = statement_text (in_some_turn h g) s n
  statement_text g (assignment p x blocking v) n = text_nodes g x n ++ text_nodes g v (n + nodes g x)
  statement_text g (system_task p) n = []
  statement_text g (null_statement p) n = []

  pub statements_text : Scope → Statements → ℕ → List NodeAt
  statements_text g no_statements n = []
  statements_text g (a_statement s ss) n = statement_text g s n ++ statements_text g ss (n + statement_nodes g s)

  pub items_text : Scope → CaseItems → ℕ → List NodeAt
  items_text g no_items n = []
  items_text g (case_item labels s is) n = all_text_nodes g labels n ++ (statement_text g s (n + all_nodes g labels) ++ items_text g is (n + all_nodes g labels + statement_nodes g s))

abbrev pub node_number : NodeAt → ℕ
node_number x = x.node

node_once : (test : Bool) (n : ℕ) (p : Place) (op : List ℕ) → Once node_number n (n + one_if test) (node_if test (a_node n p op))
node_once true n p op = once_one node_number n (n + 1) (a_node n p op) (omega arith) (omega arith)
node_once false n p op = once_none node_number n _

-- two and three that are numbered one after the other
pub two_once : (xs ys : List NodeAt) (n a b : ℕ) → Once node_number n (n + a) xs → Once node_number (n + a) (n + a + b) ys → Once node_number n (n + (a + b)) (xs ++ ys)
two_once xs ys n a b h k = once_join node_number n n (n + a) (n + a) (n + a + b) (n + (a + b)) xs ys (omega arith) h k

three_once : (xs ys zs : List NodeAt) (n a b c : ℕ) → Once node_number n (n + a) xs → Once node_number (n + a) (n + a + b) ys → Once node_number (n + a + b) (n + a + b + c) zs → Once node_number n (n + (a + b + c)) (xs ++ (ys ++ zs))
three_once xs ys zs n a b c h k l =
    once_join node_number n n (n + a) (n + a) (n + a + b + c) (n + (a + b + c)) xs (ys ++ zs) (omega arith) h (once_join node_number (n + a) (n + a) (n + a + b) (n + a + b) (n + a + b + c) (n + a + b + c) ys zs (omega arith) k l)

mutual
  pub nodes_once : (g : Scope) (e : Expr) (n : ℕ) → Once node_number n (n + nodes g e) (text_nodes g e n)
  nodes_once g (literal p v) n = once_none node_number n _
  nodes_once g (identifier p x) n = once_none node_number n _
  nodes_once g (bit_select p of i) n = two_once (text_nodes g of n) _ n (nodes g of) (nodes g i) (nodes_once g of n) (nodes_once g i (n + nodes g of))
  nodes_once g (part_select p of h l b) n =
      three_once (text_nodes g of n) (text_nodes g h (n + nodes g of)) _ n (nodes g of) (nodes g h) (nodes g l) (nodes_once g of n) (nodes_once g h (n + nodes g of)) (nodes_once g l (n + nodes g of + nodes g h))
  nodes_once g (indexed_part p of b w up k) n =
      three_once (text_nodes g of n) (text_nodes g b (n + nodes g of)) _ n (nodes g of) (nodes g b) (nodes g w) (nodes_once g of n) (nodes_once g b (n + nodes g of)) (nodes_once g w (n + nodes g of + nodes g b))
  nodes_once g (unary_operator p op a) n =
      two_once (node_if (names_thing g a) (a_node n p (unary_text op))) _ n (one_if (names_thing g a)) (nodes g a) (node_once (names_thing g a) n p (unary_text op)) (nodes_once g a (n + one_if (names_thing g a)))
  nodes_once g (binary_operator p op a b) n =
      let test = names_thing g (binary_operator p op a b) in
      three_once (node_if test (a_node n p (binary_text op))) (text_nodes g a (n + one_if test)) _ n (one_if test) (nodes g a) (nodes g b) (node_once test n p (binary_text op)) (nodes_once g a (n + one_if test)) (nodes_once g b (n + one_if test + nodes g a))
  nodes_once g (conditional p c a b) n =
      let test = is_counted_condition g c in
      three_once (condition_text g c n) (text_nodes g a (n + condition_nodes g c)) _ n (condition_nodes g c) (nodes g a) (nodes g b)
      (two_once (node_if test (a_node n (place_of (bare c)) (codes "value"))) _ n (one_if test) (nodes g c) (node_once test n (place_of (bare c)) (codes "value")) (nodes_once g c (n + one_if test)))
      (nodes_once g a (n + condition_nodes g c)) (nodes_once g b (n + condition_nodes g c + nodes g a))
  nodes_once g (concatenation p es) n = all_nodes_once g es n
  nodes_once g (replication p k es) n = two_once (text_nodes g k n) _ n (nodes g k) (all_nodes g es) (nodes_once g k n) (all_nodes_once g es (n + nodes g k))
  nodes_once g (sign_cast p s a) n = nodes_once g a n
  nodes_once g (parentheses p a) n = nodes_once g a n

  pub all_nodes_once : (g : Scope) (es : Exprs) (n : ℕ) → Once node_number n (n + all_nodes g es) (all_text_nodes g es n)
  all_nodes_once g no_exprs n = once_none node_number n _
  all_nodes_once g (an_expr e es) n = two_once (text_nodes g e n) _ n (nodes g e) (all_nodes g es) (nodes_once g e n) (all_nodes_once g es (n + nodes g e))

condition_once : (g : Scope) (c : Expr) (n : ℕ) → Once node_number n (n + condition_nodes g c) (condition_text g c n)
condition_once g c n =
    let test = is_counted_condition g c in
    two_once (node_if test (a_node n (place_of (bare c)) (codes "value"))) _ n (one_if test) (nodes g c) (node_once test n (place_of (bare c)) (codes "value")) (nodes_once g c (n + one_if test))

-- the variable of a loop is no signal in a turn
pub fewer_in_turn : (h : Header) (v : Vector) (g : Scope) → HasFewer (in_turn h v g) g
fewer_in_turn h v g x is = by_test (bytes_eq x (base_name h.name).name) is
  where
    by_test : (b : Bool) → is_thing_entry (if b then Some (a_turn v) else look_up g x) ≡ true → is_thing_entry (look_up g x) ≡ true
    by_test true e = absurd (false≢true e)
    by_test false e = e

-- the turns have one another's signals and memories
pub same_in_turns : (h : Header) (v w : Vector) (g : Scope) → HaveSameThings (in_turn h v g) (in_turn h w g)
same_in_turns h v w g x = by_test (bytes_eq x (base_name h.name).name)
  where
    by_test : (b : Bool) → is_thing_entry (if b then Some (a_turn v) else look_up g x) ≡ is_thing_entry (if b then Some (a_turn w) else look_up g x)
    by_test true = refl
    by_test false = refl

-- the value that represents that of some turn
abbrev pub some_value : Vector
some_value = record { bits = X ∷ []; signed = true }

mutual
  pub statement_once : (g : Scope) (s : Statement) (n : ℕ) → Once node_number n (n + statement_nodes g s) (statement_text g s n)
  statement_once g (sequential_block p ss) n = statements_once g ss n
  statement_once g (if_statement p c s other) n =
      three_once (condition_text g c n) (statement_text g s (n + condition_nodes g c)) _ n (condition_nodes g c) (statement_nodes g s) (all_statement_nodes g other)
      (condition_once g c n) (statement_once g s (n + condition_nodes g c)) (statements_once g other (n + condition_nodes g c + statement_nodes g s))
  statement_once g (case_statement p kind e is) n = two_once (text_nodes g e n) _ n (nodes g e) (item_nodes g is) (nodes_once g e n) (items_once g is (n + nodes g e))
  statement_once g (for_loop p h s) n =
      let fewer = statement_fewer (in_some_turn h g) g (fewer_in_turn h some_value g) s in
      once_wider node_number n (n + statement_nodes (in_some_turn h g) s) n (n + statement_nodes g s) _ (omega arith) (omega (arith, fewer)) (statement_once (in_some_turn h g) s n)
  statement_once g (assignment p x blocking v) n = two_once (text_nodes g x n) _ n (nodes g x) (nodes g v) (nodes_once g x n) (nodes_once g v (n + nodes g x))
  statement_once g (system_task p) n = once_none node_number n _
  statement_once g (null_statement p) n = once_none node_number n _

  pub statements_once : (g : Scope) (ss : Statements) (n : ℕ) → Once node_number n (n + all_statement_nodes g ss) (statements_text g ss n)
  statements_once g no_statements n = once_none node_number n _
  statements_once g (a_statement s ss) n = two_once (statement_text g s n) _ n (statement_nodes g s) (all_statement_nodes g ss) (statement_once g s n) (statements_once g ss (n + statement_nodes g s))

  pub items_once : (g : Scope) (is : CaseItems) (n : ℕ) → Once node_number n (n + item_nodes g is) (items_text g is n)
  items_once g no_items n = once_none node_number n _
  items_once g (case_item labels s is) n =
      three_once (all_text_nodes g labels n) (statement_text g s (n + all_nodes g labels)) _ n (all_nodes g labels) (statement_nodes g s) (item_nodes g is)
      (all_nodes_once g labels n) (statement_once g s (n + all_nodes g labels)) (items_once g is (n + all_nodes g labels + statement_nodes g s))

-- scopes with the same signals and memories have the same nodes
mutual
  pub same_text : (g h : Scope) → HaveSameThings g h → (e : Expr) (n : ℕ) → text_nodes g e n ≡ text_nodes h e n
  same_text g h s (literal p v) n = refl
  same_text g h s (identifier p x) n = refl
  same_text g h s (bit_select p of i) n = rw (same_nodes g h s of, same_text g h s of n, same_text g h s i (n + nodes h of))
  same_text g h s (part_select p of a b k) n = rw (same_nodes g h s of, same_nodes g h s a, same_text g h s of n, same_text g h s a (n + nodes h of), same_text g h s b (n + nodes h of + nodes h a))
  same_text g h s (indexed_part p of a b up k) n = rw (same_nodes g h s of, same_nodes g h s a, same_text g h s of n, same_text g h s a (n + nodes h of), same_text g h s b (n + nodes h of + nodes h a))
  same_text g h s (unary_operator p op a) n = rw (same_things g h s a, same_text g h s a (n + one_if (names_thing h a)))
  same_text g h s (binary_operator p op a b) n =
      let test = names_thing h (binary_operator p op a b) in
      rw (same_things g h s (binary_operator p op a b), same_nodes g h s a, same_text g h s a (n + one_if test), same_text g h s b (n + one_if test + nodes h a))
  same_text g h s (conditional p c a b) n =
      rw (same_condition g h s c, same_nodes g h s c, same_nodes g h s a, same_text g h s c (n + one_if (is_counted_condition h c)), same_text g h s a (n + condition_nodes h c), same_text g h s b (n + condition_nodes h c + nodes h a))
  same_text g h s (concatenation p es) n = same_all_text g h s es n
  same_text g h s (replication p k es) n = rw (same_nodes g h s k, same_text g h s k n, same_all_text g h s es (n + nodes h k))
  same_text g h s (sign_cast p b a) n = same_text g h s a n
  same_text g h s (parentheses p a) n = same_text g h s a n

  pub same_all_text : (g h : Scope) → HaveSameThings g h → (es : Exprs) (n : ℕ) → all_text_nodes g es n ≡ all_text_nodes h es n
  same_all_text g h s no_exprs n = refl
  same_all_text g h s (an_expr e es) n = rw (same_nodes g h s e, same_text g h s e n, same_all_text g h s es (n + nodes h e))

same_condition_text : (g h : Scope) → HaveSameThings g h → (c : Expr) (n : ℕ) → condition_text g c n ≡ condition_text h c n
same_condition_text g h s c n = rw (same_condition g h s c, same_text g h s c (n + one_if (is_counted_condition h c)))

same_condition_nodes : (g h : Scope) → HaveSameThings g h → (c : Expr) → condition_nodes g c ≡ condition_nodes h c
same_condition_nodes g h s c = rw (same_condition g h s c, same_nodes g h s c)

-- a turn in two scopes with the same signals and memories
same_turn : (g h : Scope) (x : Header) (v : Vector) → HaveSameThings g h → HaveSameThings (in_turn x v g) (in_turn x v h)
same_turn g h x v s y = by_test (bytes_eq y (base_name x.name).name)
  where
    by_test : (b : Bool) → is_thing_entry (if b then Some (a_turn v) else look_up g y) ≡ is_thing_entry (if b then Some (a_turn v) else look_up h y)
    by_test true = refl
    by_test false = s y

mutual
  pub same_statement_text : (g h : Scope) → HaveSameThings g h → (x : Statement) (n : ℕ) → statement_text g x n ≡ statement_text h x n
  same_statement_text g h s (sequential_block p xs) n = same_statements_text g h s xs n
  same_statement_text g h s (if_statement p c x other) n =
      rw (same_condition_nodes g h s c, same_statement_nodes g h s x, same_condition_text g h s c n, same_statement_text g h s x (n + condition_nodes h c), same_statements_text g h s other (n + condition_nodes h c + statement_nodes h x))
  same_statement_text g h s (case_statement p kind e is) n = rw (same_nodes g h s e, same_text g h s e n, same_items_text g h s is (n + nodes h e))
  same_statement_text g h s (for_loop p k x) n = same_statement_text (in_some_turn k g) (in_some_turn k h) (same_turn g h k some_value s) x n
  same_statement_text g h s (assignment p x blocking v) n = rw (same_nodes g h s x, same_text g h s x n, same_text g h s v (n + nodes h x))
  same_statement_text g h s (system_task p) n = refl
  same_statement_text g h s (null_statement p) n = refl

  pub same_statements_text : (g h : Scope) → HaveSameThings g h → (xs : Statements) (n : ℕ) → statements_text g xs n ≡ statements_text h xs n
  same_statements_text g h s no_statements n = refl
  same_statements_text g h s (a_statement x xs) n = rw (same_statement_nodes g h s x, same_statement_text g h s x n, same_statements_text g h s xs (n + statement_nodes h x))

  pub same_items_text : (g h : Scope) → HaveSameThings g h → (is : CaseItems) (n : ℕ) → items_text g is n ≡ items_text h is n
  same_items_text g h s no_items n = refl
  same_items_text g h s (case_item labels x is) n =
      rw (same_all_nodes g h s labels, same_statement_nodes g h s x, same_all_text g h s labels n, same_statement_text g h s x (n + all_nodes h labels), same_items_text g h s is (n + all_nodes h labels + statement_nodes h x))
