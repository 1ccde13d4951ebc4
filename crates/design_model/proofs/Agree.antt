-- An execution depends only on what it reads: two states that agree on each thing read before it is written whole give the same visits and writes.
use Rattle.std.proofs.Common.{◌≡◌, ℕ, Bool, true, false, List, [], ◌∷◌, ◌++◌, take, drop, refl, ap, ap₂, ◌∙◌, Option, Some, None}
use Rattle.std.specs.Prelude.{⊤}
use Rattle.event_machine.specs.Cell.{Values}
use Rattle.four_state.specs.Parts.{index}
use Rattle.four_state.specs.Vector.{extend, truth}
use Rattle.four_state.specs.declared.bit.Bit.{Bit}
use Rattle.design_model.specs.Tree.{Head, Target, Targets, Term, Terms, a_target, a_term, all_of, binary, bit, bits_of, choice, concat, no_targets, no_terms, number, part, repeat, several, sign, signal, slide, unary, word, word_of}
use Rattle.design_model.specs.Design.{Design, Thing, a_signal, a_word, memory_at, signal_at, thing_bits}
use Rattle.design_model.specs.Value.{head, joined, named_word, offset_option, option_word, value, word_named}
use Rattle.design_model.specs.Assignment.{bit_writes_option, signal_range, target_writes, targets_width, targets_writes, word_writes}
use Rattle.design_model.specs.Execution.{ValueFalse, ValueTrue, Visit, all_words_written, at_line, at_node, cases, if_false, if_true, index_visits, indexes_visits, node_visits, reads, two_cases, visits_of, visits_of_all, word_read, word_written, words_written, writes_word}

-- the two states agree on a thing read from outside
abbrev pub SameOuter : Design → Values Bit → Values Bit → Visit → Type 0
SameOuter d u v (at_line n) = ⊤
SameOuter d u v (at_node n c) = ⊤
SameOuter d u v (reads x true) = ⊤
SameOuter d u v (reads x false) = thing_bits d u x ≡ thing_bits d v x
SameOuter d u v (writes_word m i) = ⊤

abbrev pub AllOuter : Design → Values Bit → Values Bit → List Visit → Type 0
AllOuter d u v [] = ⊤
AllOuter d u v (x ∷ xs) = SameOuter d u v x × AllOuter d u v xs

pub outer_halves : (d : Design) (u v : Values Bit) (xs ys : List Visit) → AllOuter d u v (xs ++ ys) → AllOuter d u v xs × AllOuter d u v ys
outer_halves d u v [] ys h = (tt, h)
outer_halves d u v (x ∷ xs) ys h = let r = outer_halves d u v xs ys h.1 in ((h.0, r.0), r.1)

module _ (d : Design) (u v : Values Bit) (f : Thing → Bool) (inner : (x : Thing) → f x ≡ true → thing_bits d u x ≡ thing_bits d v x) where
  same_read : (x : Thing) → SameOuter d u v (reads x (f x)) → thing_bits d u x ≡ thing_bits d v x
  same_read x h = go (f x) refl h
    where
      go : (b : Bool) → f x ≡ b → SameOuter d u v (reads x b) → thing_bits d u x ≡ thing_bits d v x
      go true e h = inner x e
      go false e h = h

  word_same : (m : ℕ) (o : Option ℕ) → AllOuter d u v (word_read f m o) → option_word d u m o ≡ option_word d v m o
  word_same m None h = refl
  word_same m (Some k) h = same_read (a_word m k) h.0

  mutual
    pub value_same : (t : Term) → AllOuter d u v (visits_of d u f t) → value d u t ≡ value d v t
    value_same (number h n) a = refl
    value_same (signal h s) a = ap (extend h.width h.signed) (same_read (a_signal s) a.0)
    value_same (word h m i) a =
        let z = outer_halves d u v (visits_of d u f i ++ word_read f m (word_named d u m i)) (node_visits h.node (cases d u (word h m i))) a in
        let z1 = outer_halves d u v (visits_of d u f i) (word_read f m (word_named d u m i)) z.0 in
        ap (extend h.width h.signed) (word_same m (word_named d u m i) z1.1 ∙ ap (λ x. option_word d v m (named_word (memory_at d m) (index (head i).signed x))) (value_same i z1.0))
    value_same (bit h t i) a =
        let z = outer_halves d u v (visits_of d u f i ++ visits_of d u f t) (node_visits h.node (cases d u (bit h t i))) a in
        let z1 = outer_halves d u v (visits_of d u f i) (visits_of d u f t) z.0 in
        rw (value_same i z1.0, value_same t z1.1)
    value_same (part h t i j) a =
        let z = outer_halves d u v ((visits_of d u f i ++ visits_of d u f j) ++ visits_of d u f t) (node_visits h.node (cases d u (part h t i j))) a in
        let z2 = outer_halves d u v (visits_of d u f i ++ visits_of d u f j) (visits_of d u f t) z.0 in
        let z1 = outer_halves d u v (visits_of d u f i) (visits_of d u f j) z2.0 in
        rw (value_same i z1.0, value_same j z1.1, value_same t z2.1)
    value_same (slide h t b w up) a =
        let z = outer_halves d u v ((visits_of d u f b ++ visits_of d u f w) ++ visits_of d u f t) (node_visits h.node (cases d u (slide h t b w up))) a in
        let z2 = outer_halves d u v (visits_of d u f b ++ visits_of d u f w) (visits_of d u f t) z.0 in
        let z1 = outer_halves d u v (visits_of d u f b) (visits_of d u f w) z2.0 in
        rw (value_same b z1.0, value_same w z1.1, value_same t z2.1)
    value_same (unary h op t) a =
        let z = outer_halves d u v (visits_of d u f t) (node_visits h.node (cases d u (unary h op t))) a in
        rw (value_same t z.0)
    value_same (binary h op t y) a =
        let z = outer_halves d u v (visits_of d u f t ++ visits_of d u f y) (node_visits h.node (cases d u (binary h op t y))) a in
        let z1 = outer_halves d u v (visits_of d u f t) (visits_of d u f y) z.0 in
        rw (value_same t z1.0, value_same y z1.1)
    value_same (choice h c t y) a =
        let z = outer_halves d u v ((visits_of d u f c ++ visits_of d u f t) ++ visits_of d u f y) (node_visits h.node (cases d u (choice h c t y))) a in
        let z2 = outer_halves d u v (visits_of d u f c ++ visits_of d u f t) (visits_of d u f y) z.0 in
        let z1 = outer_halves d u v (visits_of d u f c) (visits_of d u f t) z2.0 in
        rw (value_same c z1.0, value_same t z1.1, value_same y z2.1)
    value_same (concat h ts) a =
        let z = outer_halves d u v (visits_of_all d u f ts) (node_visits h.node (cases d u (concat h ts))) a in
        rw (joined_same ts z.0)
    value_same (repeat h n ts) a =
        let z = outer_halves d u v (visits_of d u f n ++ visits_of_all d u f ts) (node_visits h.node (cases d u (repeat h n ts))) a in
        let z1 = outer_halves d u v (visits_of d u f n) (visits_of_all d u f ts) z.0 in
        rw (value_same n z1.0, joined_same ts z1.1)
    value_same (sign h s t) a =
        let z = outer_halves d u v (visits_of d u f t) (node_visits h.node (cases d u (sign h s t))) a in
        rw (value_same t z.0)

    pub joined_same : (ts : Terms) → AllOuter d u v (visits_of_all d u f ts) → joined d u ts ≡ joined d v ts
    joined_same no_terms a = refl
    joined_same (a_term t ts) a =
        let p = outer_halves d u v (visits_of d u f t) (visits_of_all d u f ts) a in
        rw (value_same t p.0, joined_same ts p.1)

  node_same : (h : Head) (x y : List Bit) → x ≡ y → node_visits h.node (if_false (truth x) ValueFalse ++ if_true (truth x) ValueTrue) ≡ node_visits h.node (if_false (truth y) ValueFalse ++ if_true (truth y) ValueTrue)
  node_same h x y e = ap (λ z. node_visits h.node (if_false (truth z) ValueFalse ++ if_true (truth z) ValueTrue)) e

  mutual
    pub visits_same : (t : Term) → AllOuter d u v (visits_of d u f t) → visits_of d u f t ≡ visits_of d v f t
    visits_same (number h n) a = refl
    visits_same (signal h s) a = ap (λ x. reads (a_signal s) (f (a_signal s)) ∷ x) (node_same h _ _ (value_same (signal h s) a))
    visits_same (word h m i) a =
        let z = outer_halves d u v (visits_of d u f i ++ word_read f m (word_named d u m i)) (node_visits h.node (cases d u (word h m i))) a in
        let z1 = outer_halves d u v (visits_of d u f i) (word_read f m (word_named d u m i)) z.0 in
        ap₂ (λ x z. x ++ z) (ap₂ (λ x z. x ++ z) (visits_same i z1.0) (ap (λ x. word_read f m (named_word (memory_at d m) (index (head i).signed x))) (value_same i z1.0))) (node_same h _ _ (value_same (word h m i) a))
    visits_same (bit h t i) a =
        let z = outer_halves d u v (visits_of d u f i ++ visits_of d u f t) (node_visits h.node (cases d u (bit h t i))) a in
        let z1 = outer_halves d u v (visits_of d u f i) (visits_of d u f t) z.0 in
        ap₂ (λ x z. x ++ z) (ap₂ (λ x z. x ++ z) (visits_same i z1.0) (visits_same t z1.1)) (node_same h _ _ (value_same (bit h t i) a))
    visits_same (part h t i j) a =
        let z = outer_halves d u v ((visits_of d u f i ++ visits_of d u f j) ++ visits_of d u f t) (node_visits h.node (cases d u (part h t i j))) a in
        let z2 = outer_halves d u v (visits_of d u f i ++ visits_of d u f j) (visits_of d u f t) z.0 in
        let z1 = outer_halves d u v (visits_of d u f i) (visits_of d u f j) z2.0 in
        ap₂ (λ x z. x ++ z) (ap₂ (λ x z. x ++ z) (ap₂ (λ x z. x ++ z) (visits_same i z1.0) (visits_same j z1.1)) (visits_same t z2.1)) (node_same h _ _ (value_same (part h t i j) a))
    visits_same (slide h t b w up) a =
        let z = outer_halves d u v ((visits_of d u f b ++ visits_of d u f w) ++ visits_of d u f t) (node_visits h.node (cases d u (slide h t b w up))) a in
        let z2 = outer_halves d u v (visits_of d u f b ++ visits_of d u f w) (visits_of d u f t) z.0 in
        let z1 = outer_halves d u v (visits_of d u f b) (visits_of d u f w) z2.0 in
        ap₂ (λ x z. x ++ z) (ap₂ (λ x z. x ++ z) (ap₂ (λ x z. x ++ z) (visits_same b z1.0) (visits_same w z1.1)) (visits_same t z2.1)) (node_same h _ _ (value_same (slide h t b w up) a))
    visits_same (unary h op t) a =
        let z = outer_halves d u v (visits_of d u f t) (node_visits h.node (cases d u (unary h op t))) a in
        ap₂ (λ x z. x ++ z) (visits_same t z.0) (node_same h _ _ (value_same (unary h op t) a))
    visits_same (binary h op t y) a =
        let z = outer_halves d u v (visits_of d u f t ++ visits_of d u f y) (node_visits h.node (cases d u (binary h op t y))) a in
        let z1 = outer_halves d u v (visits_of d u f t) (visits_of d u f y) z.0 in
        ap₂ (λ x z. x ++ z) (ap₂ (λ x z. x ++ z) (visits_same t z1.0) (visits_same y z1.1)) (ap₂ (λ x z. node_visits h.node (two_cases op (truth x) (truth z))) (value_same t z1.0) (value_same y z1.1))
    visits_same (choice h c t y) a =
        let z = outer_halves d u v ((visits_of d u f c ++ visits_of d u f t) ++ visits_of d u f y) (node_visits h.node (cases d u (choice h c t y))) a in
        let z2 = outer_halves d u v (visits_of d u f c ++ visits_of d u f t) (visits_of d u f y) z.0 in
        let z1 = outer_halves d u v (visits_of d u f c) (visits_of d u f t) z2.0 in
        ap₂ (λ x z. x ++ z) (ap₂ (λ x z. x ++ z) (ap₂ (λ x z. x ++ z) (visits_same c z1.0) (visits_same t z1.1)) (visits_same y z2.1)) (node_same h _ _ (value_same (choice h c t y) a))
    visits_same (concat h ts) a =
        let z = outer_halves d u v (visits_of_all d u f ts) (node_visits h.node (cases d u (concat h ts))) a in
        ap₂ (λ x z. x ++ z) (all_visits_same ts z.0) (node_same h _ _ (value_same (concat h ts) a))
    visits_same (repeat h n ts) a =
        let z = outer_halves d u v (visits_of d u f n ++ visits_of_all d u f ts) (node_visits h.node (cases d u (repeat h n ts))) a in
        let z1 = outer_halves d u v (visits_of d u f n) (visits_of_all d u f ts) z.0 in
        ap₂ (λ x z. x ++ z) (ap₂ (λ x z. x ++ z) (visits_same n z1.0) (all_visits_same ts z1.1)) (node_same h _ _ (value_same (repeat h n ts) a))
    visits_same (sign h s t) a =
        let z = outer_halves d u v (visits_of d u f t) (node_visits h.node (cases d u (sign h s t))) a in
        ap₂ (λ x z. x ++ z) (visits_same t z.0) (node_same h _ _ (value_same (sign h s t) a))

    pub all_visits_same : (ts : Terms) → AllOuter d u v (visits_of_all d u f ts) → visits_of_all d u f ts ≡ visits_of_all d v f ts
    all_visits_same no_terms a = refl
    all_visits_same (a_term t ts) a =
        let p = outer_halves d u v (visits_of d u f t) (visits_of_all d u f ts) a in
        ap₂ (λ x z. x ++ z) (visits_same t p.0) (all_visits_same ts p.1)

  -- a target: what its indexes visit, the words written, and the writes
  mutual
    pub index_same : (x : Target) → AllOuter d u v (index_visits d u f x) → index_visits d u f x ≡ index_visits d v f x
    index_same (all_of s) a = refl
    index_same (bits_of s low w) a = visits_same low a
    index_same (word_of m i) a = visits_same i a
    index_same (several ts) a = indexes_same ts a

    pub indexes_same : (ts : Targets) → AllOuter d u v (indexes_visits d u f ts) → indexes_visits d u f ts ≡ indexes_visits d v f ts
    indexes_same no_targets a = refl
    indexes_same (a_target t ts) a =
        let p = outer_halves d u v (index_visits d u f t) (indexes_visits d u f ts) a in
        ap₂ (λ x y. x ++ y) (index_same t p.0) (indexes_same ts p.1)

  mutual
    pub words_same : (x : Target) → AllOuter d u v (index_visits d u f x) → words_written d u x ≡ words_written d v x
    words_same (all_of s) a = refl
    words_same (bits_of s low w) a = refl
    words_same (word_of m i) a = ap (λ y. word_written m (named_word (memory_at d m) (index (head i).signed y))) (value_same i a)
    words_same (several ts) a = all_words_same ts a

    pub all_words_same : (ts : Targets) → AllOuter d u v (indexes_visits d u f ts) → all_words_written d u ts ≡ all_words_written d v ts
    all_words_same no_targets a = refl
    all_words_same (a_target t ts) a =
        let p = outer_halves d u v (index_visits d u f t) (indexes_visits d u f ts) a in
        ap₂ (λ x y. x ++ y) (words_same t p.0) (all_words_same ts p.1)

  mutual
    pub writes_same : (x : Target) (bs : List Bit) → AllOuter d u v (index_visits d u f x) → target_writes d u x bs ≡ target_writes d v x bs
    writes_same (all_of s) bs a = refl
    writes_same (bits_of s low w) bs a = ap (λ y. bit_writes_option s (signal_at d s).width (offset_option (signal_range d s) (index (head low).signed y)) bs) (value_same low a)
    writes_same (word_of m i) bs a = ap (λ y. word_writes d m (named_word (memory_at d m) (index (head i).signed y)) bs) (value_same i a)
    writes_same (several ts) bs a = all_writes_same ts bs a

    pub all_writes_same : (ts : Targets) (bs : List Bit) → AllOuter d u v (indexes_visits d u f ts) → targets_writes d u ts bs ≡ targets_writes d v ts bs
    all_writes_same no_targets bs a = refl
    all_writes_same (a_target t ts) bs a =
        let p = outer_halves d u v (index_visits d u f t) (indexes_visits d u f ts) a in
        ap₂ (λ x y. x ++ y) (writes_same t (drop (targets_width d ts) bs) p.0) (all_writes_same ts (take (targets_width d ts) bs) p.1)
