-- The counted nodes of flat terms, targets and statements are those that are in their text.
use Rattle.std.proofs.Common.{◌≡◌, ◌⊎◌, inl, inr, ℕ, ◌+◌, ◌-◌, ◌==◌, nat_lt, nat_le, Bool, true, false, not, ◌&&◌, ◌||◌, if◌then◌else◌, List, [], ◌∷◌, ◌++◌, refl, sym, ap, ◌∙◌, subst, append_assoc, arith}
use Rattle.std.specs.Prelude.{codes, Option, Some, None}
use Rattle.std.proofs.lemmas.Bool.{false≢true}
use Rattle.cov_host.specs.declared.place.Place.{Place}
use Rattle.four_state.specs.Vector.{Vector, fill}
use Rattle.four_state.specs.declared.bit.Bit.TheVariants.{X}
use Rattle.design_model.specs.Design.{In}
use Rattle.design_model.specs.Mentions.{subterms, all_subterms, index_terms, all_index_terms, body_terms, all_body_terms, arm_terms}
use Rattle.design_model.specs.Numbered.{NodeAt, node_at, nodes_in, node_text}
use Rattle.design_model.specs.Tree as t
use Rattle.design_model.specs.Shape.{same_bool}
use Rattle.design_model.specs.Tree.{Head, Term, Stmt, bits_of, word_of}
use Rattle.design_model.specs.declared.design.Range.{Range}
use Rattle.design_model.specs.Value.{head}
use Rattle.verilog_tree.specs.Tree.{Expr, literal, identifier, bit_select, part_select, indexed_part, unary_operator, binary_operator, conditional, concatenation, replication, sign_cast, parentheses, Exprs, no_exprs, an_expr, place_of, Statement, sequential_block, if_statement, case_statement, for_loop, assignment, system_task, null_statement, Statements, no_statements, a_statement, CaseItems, no_items, case_item}
use Rattle.elab_const.specs.Meaning.{shape_as, operand_shape, operand_shapes, operands_of}
use Rattle.elab_const.specs.declared.width.Shape.{Shape}
use Rattle.flat_design.specs.Bodies.{statement, statements, arms, turn_stmts, case_shape, in_turn, label_terms}
use Rattle.flat_design.specs.Identifiers.{base_name}
use Rattle.flat_design.specs.Loops as loops
use Rattle.flat_design.specs.Loops.{in_some_turn}
use Rattle.flat_design.specs.Numbering.{bare, is_operator, one_if, nodes, all_nodes, is_counted_condition, condition_nodes, statement_nodes, lines}
use Rattle.flat_design.specs.Scope.{Scope, look_up, names_thing, is_memory_name, shape, natural_number}
use Rattle.flat_design.specs.Targets.{target, targets, declared_range, number_term, behind_zero, signed_term, moved_width, moved_term, highest_bit, guarded_term, moved_index, lowest_index}
use Rattle.flat_design.specs.declared.entry.Entry.{Entry}
use Rattle.flat_design.specs.declared.entry.Entry.TheVariants.{Constant as a_constant, Turn as a_turn, Signal as a_signal, Memory as a_memory, LoopVariable as a_loop_variable, Instance as an_instance, NoConstant as no_constant, Faulty as a_faulty_one}
use Rattle.flat_design.specs.Terms.{head_as, number_if, counted_as, condition_as, condition_term, name_term, word_or_bit, term, terms, alone, right_side}
use Rattle.flat_laws.proofs.Members.{in_append, in_left, in_right}
use Rattle.flat_laws.proofs.TextLines.{Among, among_both}
use Rattle.flat_laws.proofs.TextNodes.{a_node, node_if, text_nodes, all_text_nodes, condition_text, statement_text, statements_text, items_text, some_value, same_in_turns, same_statement_text}

-- the nodes of two lists of terms
nodes_append : (xs ys : List Term) → nodes_in (xs ++ ys) ≡ nodes_in xs ++ nodes_in ys
nodes_append [] ys = refl
nodes_append (x ∷ xs) ys = ap (λ z. node_at (head x).node x ++ z) (nodes_append xs ys) ∙ sym (append_assoc (node_at (head x).node x) (nodes_in xs) (nodes_in ys))

pub among_nodes : (xs ys : List Term) (as' bs : List NodeAt) → Among (nodes_in xs) as' → Among (nodes_in ys) bs → Among (nodes_in (xs ++ ys)) (as' ++ bs)
among_nodes xs ys as' bs h k = subst (λ z. Among z (as' ++ bs)) (sym (nodes_append xs ys)) (among_both (nodes_in xs) (nodes_in ys) as' bs h k)

-- three lists, which are joined from the left
among_three : (xs ys zs : List Term) (as' bs cs : List NodeAt) → Among (nodes_in xs) as' → Among (nodes_in ys) bs → Among (nodes_in zs) cs → Among (nodes_in (xs ++ ys ++ zs)) (as' ++ (bs ++ cs))
among_three xs ys zs as' bs cs h k l = subst (λ z. Among (nodes_in z) (as' ++ (bs ++ cs))) (sym (append_assoc xs ys zs)) (among_nodes xs (ys ++ zs) as' (bs ++ cs) h (among_nodes ys zs bs cs k l))

-- in the right part of what is among
among_right : (xs as' bs : List NodeAt) → Among xs bs → Among xs (as' ++ bs)
among_right xs as' bs h x k = in_right x as' bs (h x k)

among_left : (xs as' bs : List NodeAt) → Among xs as' → Among xs (as' ++ bs)
among_left xs as' bs h x k = in_left x as' bs (h x k)

-- the same numbered from an equal number on
same_start : (f : ℕ → List NodeAt) (n m : ℕ) (xs : List NodeAt) → m ≡ n → Among xs (f n) → Among xs (f m)
same_start f n m xs e h = subst (λ z. Among xs (f z)) (sym e) h

-- a term that is counted where a test holds
node_here : (test : Bool) (n : ℕ) (x : Term) (xs : List Term) (p : Place) (op : List ℕ) (as' : List NodeAt) → (head x).node ≡ number_if test n → (head x).place ≡ p → node_text x ≡ op → Among (nodes_in xs) as' → Among (nodes_in (x ∷ xs)) (node_if test (a_node n p op) ++ as')
node_here test n x xs p op as' number place text h = among_both (node_at (head x).node x) (nodes_in xs) (node_if test (a_node n p op)) as' (by_test test number) h
  where
    by_test : (b : Bool) → (head x).node ≡ number_if b n → Among (node_at (head x).node x) (node_if b (a_node n p op))
    by_test true is = subst (λ z. Among (node_at z x) (a_node n p op ∷ [])) (sym is) (rw (place, text) (λ y k. k))
    by_test false is = subst (λ z. Among (node_at z x) []) (sym is) (λ y k. k)

-- a name is no counted node
name_nodes : (o : Option Entry) (p : Place) (s : Shape) (as' : List NodeAt) → Among (nodes_in (subterms (name_term o (head_as p s None)))) as'
name_nodes None p s as' x k = absurd k
name_nodes (Some (a_constant v)) p s as' x k = absurd k
name_nodes (Some (a_turn v)) p s as' x k = absurd k
name_nodes (Some (a_signal v)) p s as' x k = absurd k
name_nodes (Some (a_memory v)) p s as' x k = absurd k
name_nodes (Some a_loop_variable) p s as' x k = absurd k
name_nodes (Some an_instance) p s as' x k = absurd k
name_nodes (Some no_constant) p s as' x k = absurd k
name_nodes (Some a_faulty_one) p s as' x k = absurd k

-- the name of a memory has no counted node
memory_nodes : (g : Scope) (of : Expr) → is_memory_name g of ≡ true → nodes g of ≡ 0
memory_nodes g (identifier p x) is = refl
memory_nodes g (literal p v) is = absurd (false≢true is)
memory_nodes g (bit_select p of i) is = absurd (false≢true is)
memory_nodes g (part_select p of h l b) is = absurd (false≢true is)
memory_nodes g (indexed_part p of b w up k) is = absurd (false≢true is)
memory_nodes g (unary_operator p op a) is = absurd (false≢true is)
memory_nodes g (binary_operator p op a b) is = absurd (false≢true is)
memory_nodes g (conditional p c a b) is = absurd (false≢true is)
memory_nodes g (concatenation p es) is = absurd (false≢true is)
memory_nodes g (replication p k es) is = absurd (false≢true is)
memory_nodes g (sign_cast p s a) is = absurd (false≢true is)
memory_nodes g (parentheses p a) is = absurd (false≢true is)

-- where a term gets a number, what is in it stays
deeper : (here : NodeAt) (own rest as' : List NodeAt) → Among (own ++ rest) as' → Among (here ∷ rest) ((here ∷ []) ++ as')
deeper here own rest as' h x (inl e) = inl e
deeper here own rest as' h x (inr k) = inr (h x (in_right x own rest k))

with_number : (n : ℕ) (x : Term) (as' : List NodeAt) → Among (nodes_in (subterms x)) as' → Among (nodes_in (subterms (counted_as n x))) ((a_node n (head x).place (node_text x) ∷ []) ++ as')
with_number n (t.number h v) as' k = deeper (a_node n h.place _) (node_at h.node (t.number h v)) [] as' k
with_number n (t.signal h s) as' k = deeper (a_node n h.place _) (node_at h.node (t.signal h s)) [] as' k
with_number n (t.word h m i) as' k = deeper (a_node n h.place _) (node_at h.node (t.word h m i)) (nodes_in (subterms i)) as' k
with_number n (t.bit h of i) as' k = deeper (a_node n h.place _) (node_at h.node (t.bit h of i)) (nodes_in (subterms of ++ subterms i)) as' k
with_number n (t.part h of i j) as' k = deeper (a_node n h.place _) (node_at h.node (t.part h of i j)) (nodes_in (subterms of ++ subterms i ++ subterms j)) as' k
with_number n (t.slide h of b w up) as' k = deeper (a_node n h.place _) (node_at h.node (t.slide h of b w up)) (nodes_in (subterms of ++ subterms b ++ subterms w)) as' k
with_number n (t.unary h op a) as' k = deeper (a_node n h.place _) (node_at h.node (t.unary h op a)) (nodes_in (subterms a)) as' k
with_number n (t.binary h op a b) as' k = deeper (a_node n h.place _) (node_at h.node (t.binary h op a b)) (nodes_in (subterms a ++ subterms b)) as' k
with_number n (t.choice h c a b) as' k = deeper (a_node n h.place _) (node_at h.node (t.choice h c a b)) (nodes_in (subterms c ++ subterms a ++ subterms b)) as' k
with_number n (t.concat h ts) as' k = deeper (a_node n h.place _) (node_at h.node (t.concat h ts)) (nodes_in (all_subterms ts)) as' k
with_number n (t.repeat h c ts) as' k = deeper (a_node n h.place _) (node_at h.node (t.repeat h c ts)) (nodes_in (subterms c ++ all_subterms ts)) as' k
with_number n (t.sign h s a) as' k = deeper (a_node n h.place _) (node_at h.node (t.sign h s a)) (nodes_in (subterms a)) as' k

-- what is at the head of the term of a condition that is no operator
record IsPlainTerm (x : Term) (p : Place) : Type 0 where
  place : (head x).place ≡ p
  text : node_text x ≡ codes "value"

plain_name : (o : Option Entry) (p : Place) (s : Shape) → IsPlainTerm (name_term o (head_as p s None)) p
plain_name None p s = record { place = refl; text = refl }
plain_name (Some (a_constant v)) p s = record { place = refl; text = refl }
plain_name (Some (a_turn v)) p s = record { place = refl; text = refl }
plain_name (Some (a_signal v)) p s = record { place = refl; text = refl }
plain_name (Some (a_memory v)) p s = record { place = refl; text = refl }
plain_name (Some a_loop_variable) p s = record { place = refl; text = refl }
plain_name (Some an_instance) p s = record { place = refl; text = refl }
plain_name (Some no_constant) p s = record { place = refl; text = refl }
plain_name (Some a_faulty_one) p s = record { place = refl; text = refl }

plain_select : (b : Bool) (m : ℕ) (h : Head) (of i j : Term) → IsPlainTerm (word_or_bit b m h of i j) h.place
plain_select true m h of i j = record { place = refl; text = refl }
plain_select false m h of i j = record { place = refl; text = refl }

plain_term : (base : ℕ) (g : Scope) (c : Expr) (n : ℕ) (s : Shape) → is_operator (bare c) ≡ false → IsPlainTerm (term base g c n s) (place_of (bare c))
plain_term base g (literal p v) n s is = record { place = refl; text = refl }
plain_term base g (identifier p x) n s is = plain_name (look_up g x) p s
plain_term base g (bit_select p of i) n s is = plain_select (is_memory_name g of) _ (head_as p s None) _ _ _
plain_term base g (part_select p of h l b) n s is = record { place = refl; text = refl }
plain_term base g (indexed_part p of b w up k) n s is = record { place = refl; text = refl }
plain_term base g (unary_operator p op a) n s is = absurd (false≢true (sym is))
plain_term base g (binary_operator p op a b) n s is = absurd (false≢true (sym is))
plain_term base g (conditional p c a b) n s is = record { place = refl; text = refl }
plain_term base g (concatenation p es) n s is = record { place = refl; text = refl }
plain_term base g (replication p k es) n s is = record { place = refl; text = refl }
plain_term base g (sign_cast p signed a) n s is = record { place = refl; text = refl }
plain_term base g (parentheses p a) n s is = plain_term base g a n s is

not_both : (a b : Bool) → (not a && b) ≡ true → a ≡ false
not_both false b h = refl
not_both true b h = absurd (false≢true h)

-- a condition, by the nodes of its term
condition_among : (base : ℕ) (g : Scope) (c : Expr) (n : ℕ) (s : Shape) → ((k : ℕ) → Among (nodes_in (subterms (term base g c k s))) (text_nodes g c k)) →
    Among (nodes_in (subterms (condition_as (is_counted_condition g c) n (λ k. term base g c k s)))) (condition_text g c n)
condition_among base g c n s each = by_test (is_counted_condition g c) refl
  where
    by_test : (b : Bool) → is_counted_condition g c ≡ b → Among (nodes_in (subterms (condition_as b n (λ k. term base g c k s)))) (node_if b (a_node n (place_of (bare c)) (codes "value")) ++ text_nodes g c (n + one_if b))
    by_test false is = same_start (text_nodes g c) n (n + 0) _ (omega arith) (each n)
    by_test true is =
        let plain = plain_term base g c (n + 1) s (not_both (is_operator (bare c)) (names_thing g c) is) in
        subst (λ z. Among (nodes_in (subterms (counted_as n (term base g c (n + 1) s)))) ((a_node n z (codes "value") ∷ []) ++ text_nodes g c (n + 1))) plain.place
        (subst (λ z. Among (nodes_in (subterms (counted_as n (term base g c (n + 1) s)))) ((a_node n (head (term base g c (n + 1) s)).place z ∷ []) ++ text_nodes g c (n + 1))) plain.text
        (with_number n (term base g c (n + 1) s) (text_nodes g c (n + 1)) (each (n + 1))))

-- a word of a memory, or a bit
select_among : (g : Scope) (of : Expr) (n : ℕ) (p : Place) (s : Shape) (m : ℕ) (x : Term) (i : ℕ → Term) (as' : List NodeAt) (bs : ℕ → List NodeAt) → Among (nodes_in (subterms x)) as' → ((k : ℕ) → Among (nodes_in (subterms (i k))) (bs k)) →
    Among (nodes_in (subterms (word_or_bit (is_memory_name g of) m (head_as p s None) x (i n) (i (n + nodes g of))))) (as' ++ bs (n + nodes g of))
select_among g of n p s m x i as' bs h each = by_test (is_memory_name g of) refl
  where
    by_test : (b : Bool) → is_memory_name g of ≡ b → Among (nodes_in (subterms (word_or_bit b m (head_as p s None) x (i n) (i (n + nodes g of))))) (as' ++ bs (n + nodes g of))
    by_test true is = among_right _ as' _ (same_start bs n (n + nodes g of) _ (omega (arith, memory_nodes g of is)) (each n))
    by_test false is = among_nodes (subterms x) _ as' _ h (each (n + nodes g of))

mutual
  pub nodes_in_text : (base : ℕ) (g : Scope) (e : Expr) (n : ℕ) (s : Shape) → Among (nodes_in (subterms (term base g e n s))) (text_nodes g e n)
  nodes_in_text base g (literal p v) n s = λ x k. k
  nodes_in_text base g (identifier p x) n s = name_nodes (look_up g x) p s []
  nodes_in_text base g (bit_select p of i) n s =
      select_among g of n p s _ (term base g of n (shape g of)) (λ k. term base g i k (shape g i)) (text_nodes g of n) (text_nodes g i) (nodes_in_text base g of n (shape g of)) (λ k. nodes_in_text base g i k (shape g i))
  nodes_in_text base g (part_select p of h l b) n s =
      among_three (subterms (term base g of n (shape g of))) (subterms (term base g h (n + nodes g of) (shape g h))) _ (text_nodes g of n) (text_nodes g h (n + nodes g of)) _
      (nodes_in_text base g of n (shape g of)) (nodes_in_text base g h (n + nodes g of) (shape g h)) (nodes_in_text base g l (n + nodes g of + nodes g h) (shape g l))
  nodes_in_text base g (indexed_part p of b w up k) n s =
      among_three (subterms (term base g of n (shape g of))) (subterms (term base g b (n + nodes g of) (shape g b))) _ (text_nodes g of n) (text_nodes g b (n + nodes g of)) _
      (nodes_in_text base g of n (shape g of)) (nodes_in_text base g b (n + nodes g of) (shape g b)) (nodes_in_text base g w (n + nodes g of + nodes g b) (shape g w))
  nodes_in_text base g (unary_operator p op a) n s =
      node_here (names_thing g a) n (term base g (unary_operator p op a) n s) (subterms (term base g a (n + one_if (names_thing g a)) (operand_shape op (shape g a) s))) p _ _ refl refl refl (nodes_in_text base g a (n + one_if (names_thing g a)) (operand_shape op (shape g a) s))
  nodes_in_text base g (binary_operator p op a b) n s =
      let test = names_thing g (binary_operator p op a b) in
      let shapes : Shape × Shape = operand_shapes (operands_of op) (shape g a) (shape g b) s in
      let left : List Term = subterms (term base g a (n + one_if test) shapes.0) in
      let right : List Term = subterms (term base g b (n + one_if test + nodes g a) shapes.1) in
      node_here test n (term base g (binary_operator p op a b) n s) (left ++ right) p _ _ refl refl refl
      (among_nodes left right (text_nodes g a (n + one_if test)) _ (nodes_in_text base g a (n + one_if test) shapes.0) (nodes_in_text base g b (n + one_if test + nodes g a) shapes.1))
  nodes_in_text base g (conditional p c a b) n s =
      among_three (subterms (condition_as (is_counted_condition g c) n (λ k. term base g c k (shape g c)))) (subterms (term base g a (n + condition_nodes g c) s)) _ (condition_text g c n) (text_nodes g a (n + condition_nodes g c)) _
      (condition_among base g c n (shape g c) (λ k. nodes_in_text base g c k (shape g c))) (nodes_in_text base g a (n + condition_nodes g c) s) (nodes_in_text base g b (n + condition_nodes g c + nodes g a) s)
  nodes_in_text base g (concatenation p es) n s = all_nodes_in_text base g es n
  nodes_in_text base g (replication p k es) n s =
      among_nodes (subterms (term base g k n (shape g k))) _ (text_nodes g k n) _ (nodes_in_text base g k n (shape g k)) (all_nodes_in_text base g es (n + nodes g k))
  nodes_in_text base g (sign_cast p signed a) n s = nodes_in_text base g a n (shape g a)
  nodes_in_text base g (parentheses p a) n s = nodes_in_text base g a n s

  pub all_nodes_in_text : (base : ℕ) (g : Scope) (es : Exprs) (n : ℕ) → Among (nodes_in (all_subterms (terms base g es n))) (all_text_nodes g es n)
  all_nodes_in_text base g no_exprs n = λ x k. k
  all_nodes_in_text base g (an_expr e es) n =
      among_nodes (subterms (term base g e n (shape g e))) _ (text_nodes g e n) _ (nodes_in_text base g e n (shape g e)) (all_nodes_in_text base g es (n + nodes g e))

-- the nodes of two lists among the same
both_among : (xs ys : List Term) (as' : List NodeAt) → Among (nodes_in xs) as' → Among (nodes_in ys) as' → Among (nodes_in (xs ++ ys)) as'
both_among xs ys as' h k x l = by_side (in_append x (nodes_in xs) (nodes_in ys) (subst (λ z. In x z) (nodes_append xs ys) l))
  where
    by_side : In x (nodes_in xs) ⊎ In x (nodes_in ys) → In x as'
    by_side (inl m) = h x m
    by_side (inr m) = k x m

either_among : (b : Bool) (x y : Term) (as' : List NodeAt) → Among (nodes_in (subterms x)) as' → Among (nodes_in (subterms y)) as' → Among (nodes_in (subterms (if b then x else y))) as'
either_among true x y as' h k = h
either_among false x y as' h k = k

none_among : (as' : List NodeAt) → Among (nodes_in []) as'
none_among as' x k = absurd k

-- the index of the lowest bit of an indexed part has the nodes of its base
module _ (base : ℕ) (g : Scope) (e : Expr) (n : ℕ) where
  base_among : Among (nodes_in (subterms (alone base g e n))) (text_nodes g e n)
  base_among = nodes_in_text base g e n (shape g e)

  signed_among : (w : ℕ) → Among (nodes_in (subterms (signed_term base g w e n))) (text_nodes g e n)
  signed_among w =
      either_among (nat_lt (shape g e).width 128 && not (shape g e).signed) (behind_zero base g e n) (alone base g e n) (text_nodes g e n)
      (both_among (subterms (alone base g e n)) [] (text_nodes g e n) base_among (none_among _)) base_among

  moved_among : (up : Bool) (by : ℕ) → Among (nodes_in (subterms (moved_term base g up by e n))) (text_nodes g e n)
  moved_among up by =
      both_among (subterms (signed_term base g (moved_width g e) e n)) (number_term (place_of e) (shape_as (moved_width g e) true) by ∷ []) (text_nodes g e n) (signed_among (moved_width g e)) (none_among _)

  highest_among : Among (nodes_in (subterms (highest_bit base g e n))) (text_nodes g e n)
  highest_among = both_among (subterms (alone base g e n)) (number_term (place_of e) (shape_as 8 false) 127 ∷ []) (text_nodes g e n) base_among (none_among _)

  guarded_among : (moved : Term) → Among (nodes_in (subterms moved)) (text_nodes g e n) → Among (nodes_in (subterms (guarded_term base g e n moved))) (text_nodes g e n)
  guarded_among moved h =
      let strange : Term = t.number (head_as (place_of e) (shape_as 128 true) None) (record { bits = fill 128 X; signed = true }) in
      both_among (subterms (highest_bit base g e n) ++ strange ∷ []) (subterms moved) (text_nodes g e n) (both_among (subterms (highest_bit base g e n)) (strange ∷ []) (text_nodes g e n) highest_among (none_among _)) h

  lowest_among : (r : Range) (up : Bool) (w : ℕ) → Among (nodes_in (subterms (lowest_index base g r up w e n))) (text_nodes g e n)
  lowest_among r up w =
      either_among (same_bool up (nat_le r.low r.high) || (w == 1)) (alone base g e n) (moved_index base g up (w - 1) e n) (text_nodes g e n) base_among
      (either_among (nat_lt (shape g e).width 128 || (shape g e).signed) (moved_term base g up (w - 1) e n) _ (text_nodes g e n) (moved_among up (w - 1)) (guarded_among (moved_term base g up (w - 1) e n) (moved_among up (w - 1))))

mutual
  pub target_in_text : (base : ℕ) (g : Scope) (e : Expr) (n : ℕ) → Among (nodes_in (index_terms (target base g e n))) (text_nodes g e n)
  target_in_text base g (identifier p x) n = λ x k. absurd k
  target_in_text base g (bit_select p of i) n = either (is_memory_name g of) _ _ (nodes_in_text base g i (n + nodes g of) (shape g i))
    where
      either : (b : Bool) (m k : ℕ) → Among (nodes_in (subterms (alone base g i (n + nodes g of)))) (text_nodes g i (n + nodes g of)) →
          Among (nodes_in (index_terms (if b then word_of m (alone base g i (n + nodes g of)) else bits_of k (alone base g i (n + nodes g of)) 1))) (text_nodes g of n ++ text_nodes g i (n + nodes g of))
      either true m k h = among_right _ (text_nodes g of n) _ h
      either false m k h = among_right _ (text_nodes g of n) _ h
  target_in_text base g (part_select p of h l b) n =
      among_right _ (text_nodes g of n) _ (among_right _ (text_nodes g h (n + nodes g of)) _ (nodes_in_text base g l (n + nodes g of + nodes g h) (shape g l)))
  target_in_text base g (indexed_part p of b w up k) n =
      among_right _ (text_nodes g of n) _ (among_left _ (text_nodes g b (n + nodes g of)) _ (lowest_among base g b (n + nodes g of) (declared_range (look_up g (base_name of).name)) up (natural_number g w)))
  target_in_text base g (concatenation p es) n = targets_in_text base g es n
  target_in_text base g (literal p v) n = λ x k. absurd k
  target_in_text base g (unary_operator p op a) n = λ x k. absurd k
  target_in_text base g (binary_operator p op a b) n = λ x k. absurd k
  target_in_text base g (conditional p c a b) n = λ x k. absurd k
  target_in_text base g (replication p k es) n = λ x k. absurd k
  target_in_text base g (sign_cast p s a) n = λ x k. absurd k
  target_in_text base g (parentheses p a) n = λ x k. absurd k

  pub targets_in_text : (base : ℕ) (g : Scope) (es : Exprs) (n : ℕ) → Among (nodes_in (all_index_terms (targets base g es n))) (all_text_nodes g es n)
  targets_in_text base g no_exprs n = λ x k. absurd k
  targets_in_text base g (an_expr e es) n =
      among_nodes (index_terms (target base g e n)) (all_index_terms (targets base g es (n + nodes g e))) (text_nodes g e n) _ (target_in_text base g e n) (targets_in_text base g es (n + nodes g e))

labels_in_text : (base : ℕ) (g : Scope) (w : Shape) (es : Exprs) (n : ℕ) → Among (nodes_in (all_subterms (label_terms base g w es n))) (all_text_nodes g es n)
labels_in_text base g w no_exprs n = λ x k. absurd k
labels_in_text base g w (an_expr e es) n =
    among_nodes (subterms (term base g e n w)) (all_subterms (label_terms base g w es (n + nodes g e))) (text_nodes g e n) _ (nodes_in_text base g e n w) (labels_in_text base g w es (n + nodes g e))

turns_among : (vs : List Vector) (f : Vector → Stmt) (as' : List NodeAt) → ((v : Vector) → Among (nodes_in (body_terms (f v))) as') → Among (nodes_in (all_body_terms (turn_stmts vs f))) as'
turns_among [] f as' h = λ x k. absurd k
turns_among (v ∷ vs) f as' h = both_among (body_terms (f v)) (all_body_terms (turn_stmts vs f)) as' (h v) (turns_among vs f as' h)

mutual
  pub statement_in_text : (base : ℕ) (g : Scope) (s : Statement) (l n : ℕ) → Among (nodes_in (body_terms (statement base g s l n))) (statement_text g s n)
  statement_in_text base g (sequential_block p ss) l n = statements_in_text base g ss l n
  statement_in_text base g (if_statement p c s other) l n =
      among_three (subterms (condition_term base g c n)) (body_terms (statement base g s (l + 1) (n + condition_nodes g c))) (all_body_terms (statements base g other (l + 1 + lines s) (n + condition_nodes g c + statement_nodes g s)))
      (condition_text g c n) (statement_text g s (n + condition_nodes g c)) _
      (condition_among base g c n (shape g c) (λ k. nodes_in_text base g c k (shape g c))) (statement_in_text base g s (l + 1) (n + condition_nodes g c)) (statements_in_text base g other (l + 1 + lines s) (n + condition_nodes g c + statement_nodes g s))
  statement_in_text base g (case_statement p kind e is) l n =
      among_nodes (subterms (term base g e n (case_shape g e is))) (arm_terms (arms base g (case_shape g e is) is (l + 1) (n + nodes g e))) (text_nodes g e n) _ (nodes_in_text base g e n (case_shape g e is)) (arms_in_text base g (case_shape g e is) is (l + 1) (n + nodes g e))
  statement_in_text base g (for_loop p h s) l n =
      turns_among (loops.turns g h) (λ v. statement base (in_turn h v g) s (l + 1) n) (statement_text (in_some_turn h g) s n)
      (λ v. subst (Among (nodes_in (body_terms (statement base (in_turn h v g) s (l + 1) n)))) (same_statement_text (in_turn h v g) (in_some_turn h g) (same_in_turns h v some_value g) s n) (statement_in_text base (in_turn h v g) s (l + 1) n))
  statement_in_text base g (assignment p x blocking v) l n =
      among_nodes (index_terms (target base g x n)) (subterms (right_side base g (shape g x).width v (n + nodes g x))) (text_nodes g x n) _ (target_in_text base g x n) (nodes_in_text base g v (n + nodes g x) _)
  statement_in_text base g (system_task p) l n = λ x k. absurd k
  statement_in_text base g (null_statement p) l n = λ x k. absurd k

  pub statements_in_text : (base : ℕ) (g : Scope) (ss : Statements) (l n : ℕ) → Among (nodes_in (all_body_terms (statements base g ss l n))) (statements_text g ss n)
  statements_in_text base g no_statements l n = λ x k. absurd k
  statements_in_text base g (a_statement s ss) l n =
      among_nodes (body_terms (statement base g s l n)) (all_body_terms (statements base g ss (l + lines s) (n + statement_nodes g s))) (statement_text g s n) _ (statement_in_text base g s l n) (statements_in_text base g ss (l + lines s) (n + statement_nodes g s))

  pub arms_in_text : (base : ℕ) (g : Scope) (w : Shape) (is : CaseItems) (l n : ℕ) → Among (nodes_in (arm_terms (arms base g w is l n))) (items_text g is n)
  arms_in_text base g w no_items l n = λ x k. absurd k
  arms_in_text base g w (case_item labels s is) l n =
      among_three (all_subterms (label_terms base g w labels n)) (body_terms (statement base g s l (n + all_nodes g labels))) (arm_terms (arms base g w is (l + lines s) (n + all_nodes g labels + statement_nodes g s)))
      (all_text_nodes g labels n) (statement_text g s (n + all_nodes g labels)) _
      (labels_in_text base g w labels n) (statement_in_text base g s l (n + all_nodes g labels)) (arms_in_text base g w is (l + lines s) (n + all_nodes g labels + statement_nodes g s))
