-- What an Assign visits depends on the bits that it may read; it reads each signal that it mentions.
use Rattle.std.proofs.Common.{◌≡◌, ⊎_elim, ℕ, Bool, true, false, not, ◌&&◌, ◌||◌, ◌==◌, List, ◌∷◌, ◌++◌, Option, Some, None, refl, ap, ap₂, if◌then◌else◌}
use Rattle.std.specs.Prelude.{is_none}
use Rattle.std.proofs.lemmas.Bool.{and_parts, false≢true, or_cases, or_left, or_right}
use Rattle.event_machine.specs.Cell.{Cell, Values}
use Rattle.four_state.specs.Parts.{index}
use Rattle.four_state.specs.Vector.{truth}
use Rattle.four_state.specs.declared.bit.Bit.{Bit}
use Rattle.design_model.specs.Tree.{Term, Terms, a_term, binary, bit, choice, concat, no_terms, number, part, repeat, sign, signal, slide, unary, word}
use Rattle.design_model.specs.Design.{Design, Thing, a_signal, is_memory, memory_at}
use Rattle.design_model.specs.Value.{head, named_word}
use Rattle.design_model.specs.Mentions.{are_constant, is_constant, mentions, mentions_any}
use Rattle.design_model.specs.Execution.{NodeCase, ValueFalse, ValueTrue, Visit, if_false, if_true, node_visits, reads, two_cases, visits_of, visits_of_all, word_read}
use Rattle.design_model.specs.Shape.{are_alone, has_shape, is_shaped, is_wide_unary, own_sign, own_width}
use Rattle.design_model.specs.Lawful.{is_plain, may_read}
use Rattle.design_model.specs.WellFormed.{are_well_formed, is_right, is_well_formed}
use Rattle.design_model.proofs.Assigns.{read_mentions}
use Rattle.design_model.proofs.BitReads.{SameBits, SameBitsOf, binary_shape, binary_shaped, if_cases, value_reads}

-- a constant term mentions nothing
mutual
  pub constant_mentions : (x : ℕ) (t : Term) → is_constant t ≡ true → mentions x t ≡ true → ⊥
  constant_mentions x (number h n) c m = false≢true m
  constant_mentions x (signal h s) c m = false≢true c
  constant_mentions x (word h y i) c m = false≢true c
  constant_mentions x (bit h t i) c m =
      let p = and_parts (is_constant t) (is_constant i) c in
      ⊎_elim (constant_mentions x t p.0) (constant_mentions x i p.1) (or_cases (mentions x t) _ m)
  constant_mentions x (part h t i j) c m =
      let p = and_parts (is_constant t) _ c in
      let q = and_parts (is_constant i) (is_constant j) p.1 in
      ⊎_elim (constant_mentions x t p.0) (λ k. ⊎_elim (constant_mentions x i q.0) (constant_mentions x j q.1) (or_cases (mentions x i) _ k)) (or_cases (mentions x t) _ m)
  constant_mentions x (slide h t b w up) c m =
      let p = and_parts (is_constant t) _ c in
      let q = and_parts (is_constant b) (is_constant w) p.1 in
      ⊎_elim (constant_mentions x t p.0) (λ k. ⊎_elim (constant_mentions x b q.0) (constant_mentions x w q.1) (or_cases (mentions x b) _ k)) (or_cases (mentions x t) _ m)
  constant_mentions x (unary h op t) c m = constant_mentions x t c m
  constant_mentions x (binary h op t u) c m =
      let p = and_parts (is_constant t) (is_constant u) c in
      ⊎_elim (constant_mentions x t p.0) (constant_mentions x u p.1) (or_cases (mentions x t) _ m)
  constant_mentions x (choice h y t u) c m =
      let p = and_parts (is_constant y) _ c in
      let q = and_parts (is_constant t) (is_constant u) p.1 in
      ⊎_elim (constant_mentions x y p.0) (λ k. ⊎_elim (constant_mentions x t q.0) (constant_mentions x u q.1) (or_cases (mentions x t) _ k)) (or_cases (mentions x y) _ m)
  constant_mentions x (concat h ts) c m = constants_mention x ts c m
  constant_mentions x (repeat h n ts) c m =
      let p = and_parts (is_constant n) (are_constant ts) c in
      ⊎_elim (constant_mentions x n p.0) (constants_mention x ts p.1) (or_cases (mentions x n) _ m)
  constant_mentions x (sign h s t) c m = constant_mentions x t c m

  constants_mention : (x : ℕ) (ts : Terms) → are_constant ts ≡ true → mentions_any x ts ≡ true → ⊥
  constants_mention x no_terms c m = false≢true m
  constants_mention x (a_term t ts) c m =
      let p = and_parts (is_constant t) (are_constant ts) c in
      ⊎_elim (constant_mentions x t p.0) (constants_mention x ts p.1) (or_cases (mentions x t) _ m)

no_node : (o : Option ℕ) (xs ys : List NodeCase) → is_none o ≡ true → node_visits o xs ≡ node_visits o ys
no_node None xs ys h = refl
no_node (Some n) xs ys h = absurd (false≢true h)

pub both : {xs ys zs ws : List Visit} → xs ≡ ys → zs ≡ ws → xs ++ zs ≡ ys ++ ws
both e f = ap₂ (λ a b. a ++ b) e f

-- a term that is no operator and no condition has no number
no_number : (o : Option ℕ) (b c : Bool) → ((is_none o || (false && b)) && c) ≡ true → is_none o ≡ true
no_number None b c h = refl
no_number (Some n) b c h = absurd (false≢true h)

module _ (d : Design) (u v : Values Bit) (inner : Thing → Bool) where
  abbrev SameVisits : Term → Type 0
  SameVisits t = visits_of d u inner t ≡ visits_of d v inner t

  -- the visits of a term with its own value as a node
  own_same : (o : Option ℕ) (x y : List Bit) → x ≡ y → node_visits o (if_false (truth x) ValueFalse ++ if_true (truth x) ValueTrue) ≡ node_visits o (if_false (truth y) ValueFalse ++ if_true (truth y) ValueTrue)
  own_same o x y e = ap (λ z. node_visits o (if_false (truth z) ValueFalse ++ if_true (truth z) ValueTrue)) e

  -- a constant term
  constant_bits : (t : Term) → is_constant t ≡ true → SameBits d u v t
  constant_bits t c b r = absurd (constant_mentions b.thing t c (read_mentions d t b r))

  -- what a select is taken of: a signal is read whatever the bits are
  taken_same : (t : Term) → is_well_formed d false t ≡ true → (is_plain t ≡ false → SameVisits t) → SameVisits t
  taken_same (signal h s) w f = ap (λ z. reads (a_signal s) (inner (a_signal s)) ∷ z) (no_node h.node _ _ (no_number h.node true true w))
  taken_same _ w f = f refl

  abbrev Reads : Term → Type 0
  Reads t = SameBits d u v t → SameVisits t

  -- the bits of what is no signal are all asked
  all_bits : (t : Term) (k : Bool) (x : Cell → Bool) → is_plain t ≡ false → ((c : Cell) → (may_read d t c && (not (is_plain t && k) || x c)) ≡ true → u c ≡ v c) → SameBits d u v t
  all_bits t k x unplain same c r = same c (rw (unplain, r) refl)

  mutual
    pub visits_reads : (w : ℕ) (g c : Bool) (t : Term) → is_shaped d w g t ≡ true → is_well_formed d c t ≡ true → SameBits d u v t → SameVisits t
    visits_reads w g c (number h n) shape well same = refl
    visits_reads w g c (signal h s) shape well same = ap (λ z. reads (a_signal s) (inner (a_signal s)) ∷ z) (own_same h.node _ _ (value_reads d u v w g (signal h s) shape same))
    visits_reads w g c (word h m i) shape well same =
        let p = (and_parts (has_shape w g h && is_memory d m) _ shape).1 in
        let q = (and_parts (is_right d c (word h m i)) _ well).1 in
        let index_bits : SameBits d u v i = λ b r. same b (or_right (b.thing == m) _ r) in
        both (both (visits_reads (own_width d i) (own_sign d i) false i p q index_bits) (ap (λ y. word_read inner m (named_word (memory_at d m) (index (head i).signed y))) (value_reads d u v (own_width d i) (own_sign d i) i p index_bits)))
        (own_same h.node _ _ (value_reads d u v w g (word h m i) shape same))
    visits_reads w g c (bit h t i) shape well same =
        let p = and_parts (has_shape w g h && is_shaped d (own_width d t) (own_sign d t) t) _ shape in
        let q = (and_parts (has_shape w g h) _ p.0).1 in
        let r = and_parts (is_well_formed d false t) _ (and_parts (is_right d c (bit h t i)) _ well).1 in
        both (both (visits_reads (own_width d i) (own_sign d i) false i p.1 r.1 (λ b k. same b (or_left (may_read d i b) _ k)))
        (taken_same t r.0 (λ unplain. visits_reads (own_width d t) (own_sign d t) false t q r.0 (all_bits t (is_constant i) _ unplain (λ b k. same b (or_right (may_read d i b) _ k))))))
        (own_same h.node _ _ (value_reads d u v w g (bit h t i) shape same))
    visits_reads w g c (part h t i j) shape well same =
        let p5 = and_parts _ (is_constant j) shape in
        let p4 = and_parts _ (is_constant i) p5.0 in
        let p3 = and_parts _ (is_shaped d (own_width d j) (own_sign d j) j) p4.0 in
        let p2 = and_parts _ (is_shaped d (own_width d i) (own_sign d i) i) p3.0 in
        let p1 = and_parts (has_shape w g h) (is_shaped d (own_width d t) (own_sign d t) t) p2.0 in
        let r = and_parts (is_well_formed d false t) _ (and_parts (is_right d c (part h t i j)) _ well).1 in
        let r1 = and_parts (is_well_formed d false i) _ r.1 in
        both (both (both (visits_reads (own_width d i) (own_sign d i) false i p2.1 r1.0 (constant_bits i p4.1)) (visits_reads (own_width d j) (own_sign d j) false j p3.1 r1.1 (constant_bits j p5.1)))
        (taken_same t r.0 (λ unplain. visits_reads (own_width d t) (own_sign d t) false t p1.1 r.0 (λ b k. same b (rw (unplain, k) refl)))))
        (own_same h.node _ _ (value_reads d u v w g (part h t i j) shape same))
    visits_reads w g c (slide h t b k up) shape well same =
        let p4 = and_parts _ (is_constant k) shape in
        let p3 = and_parts _ (is_shaped d (own_width d k) (own_sign d k) k) p4.0 in
        let p2 = and_parts _ (is_shaped d (own_width d b) (own_sign d b) b) p3.0 in
        let p1 = and_parts (has_shape w g h) (is_shaped d (own_width d t) (own_sign d t) t) p2.0 in
        let r = and_parts (is_well_formed d false t) _ (and_parts (is_right d c (slide h t b k up)) _ well).1 in
        let r1 = and_parts (is_well_formed d false b) _ r.1 in
        both (both (both (visits_reads (own_width d b) (own_sign d b) false b p2.1 r1.0 (λ x y. same x (or_left (may_read d b x) _ y))) (visits_reads (own_width d k) (own_sign d k) false k p3.1 r1.1 (constant_bits k p4.1)))
        (taken_same t r.0 (λ unplain. visits_reads (own_width d t) (own_sign d t) false t p1.1 r.0 (all_bits t (is_constant b) _ unplain (λ x y. same x (or_right (may_read d b x) _ y))))))
        (own_same h.node _ _ (value_reads d u v w g (slide h t b k up) shape same))
    visits_reads w g c (unary h op t) shape well same =
        let r = (and_parts (is_right d c (unary h op t)) _ well).1 in
        both
        (⊎_elim (λ p. visits_reads w g false t p r same) (λ p. visits_reads (own_width d t) (own_sign d t) false t p r same) (if_cases (is_wide_unary op) (is_shaped d w g t) (is_shaped d (own_width d t) (own_sign d t) t) (and_parts (has_shape w g h) (if is_wide_unary op then is_shaped d w g t else is_shaped d (own_width d t) (own_sign d t) t) shape).1))
        (own_same h.node _ _ (value_reads d u v w g (unary h op t) shape same))
    visits_reads w g c (binary h op t y) shape well same =
        let left : SameBits d u v t = λ b r. same b (or_left (may_read d t b) _ r) in
        let right : SameBits d u v y = λ b r. same b (or_right (may_read d t b) _ r) in
        let k = binary_shape d w g op t y (and_parts (has_shape w g h) (binary_shaped d w g op t y) shape).1 in
        let r = and_parts (is_well_formed d false t) _ (and_parts (is_right d c (binary h op t y)) _ well).1 in
        both (both (visits_reads k.0 k.1 false t k.4 r.0 left) (visits_reads k.2 k.3 false y k.5 r.1 right))
        (ap₂ (λ a b. node_visits h.node (two_cases op (truth a) (truth b))) (value_reads d u v k.0 k.1 t k.4 left) (value_reads d u v k.2 k.3 y k.5 right))
    visits_reads w g c (choice h x t y) shape well same =
        let p3 = and_parts _ (is_shaped d w g y) shape in
        let p2 = and_parts _ (is_shaped d w g t) p3.0 in
        let p1 = and_parts (has_shape w g h) (is_shaped d (own_width d x) (own_sign d x) x) p2.0 in
        let r = and_parts (is_well_formed d true x) _ (and_parts (is_right d c (choice h x t y)) _ well).1 in
        let r1 = and_parts (is_well_formed d false t) _ r.1 in
        both (both (both (visits_reads (own_width d x) (own_sign d x) true x p1.1 r.0 (λ b k. same b (or_left (may_read d x b) _ k)))
        (visits_reads w g false t p2.1 r1.0 (λ b k. same b (or_right (may_read d x b) _ (or_left (may_read d t b) _ k))))) (visits_reads w g false y p3.1 r1.1 (λ b k. same b (or_right (may_read d x b) _ (or_right (may_read d t b) _ k)))))
        (own_same h.node _ _ (value_reads d u v w g (choice h x t y) shape same))
    visits_reads w g c (concat h ts) shape well same =
        both (all_reads ts (and_parts (has_shape w g h) _ shape).1 (and_parts (is_right d c (concat h ts)) _ well).1 same) (own_same h.node _ _ (value_reads d u v w g (concat h ts) shape same))
    visits_reads w g c (repeat h n ts) shape well same =
        let p2 = and_parts _ (are_alone d ts) shape in
        let p1 = and_parts _ (is_constant n) p2.0 in
        let p0 = and_parts (has_shape w g h) _ p1.0 in
        let r = and_parts (is_well_formed d false n) _ (and_parts (is_right d c (repeat h n ts)) _ well).1 in
        both (both (visits_reads (own_width d n) (own_sign d n) false n p0.1 r.0 (constant_bits n p1.1)) (all_reads ts p2.1 r.1 same)) (own_same h.node _ _ (value_reads d u v w g (repeat h n ts) shape same))
    visits_reads w g c (sign h s t) shape well same =
        both (visits_reads (own_width d t) (own_sign d t) false t (and_parts (has_shape w g h) _ shape).1 (and_parts (is_right d c (sign h s t)) _ well).1 same) (own_same h.node _ _ (value_reads d u v w g (sign h s t) shape same))

    all_reads : (ts : Terms) → are_alone d ts ≡ true → are_well_formed d ts ≡ true → SameBitsOf d u v ts → visits_of_all d u inner ts ≡ visits_of_all d v inner ts
    all_reads no_terms shape well same = refl
    all_reads (a_term t ts) shape well same =
        let p = and_parts (is_shaped d (own_width d t) (own_sign d t) t) (are_alone d ts) shape in
        let r = and_parts (is_well_formed d false t) _ well in
        both (visits_reads (own_width d t) (own_sign d t) false t p.0 r.0 (λ b k. same b (or_left (may_read d t b) _ k))) (all_reads ts p.1 r.1 (λ b k. same b (or_right (may_read d t b) _ k)))
