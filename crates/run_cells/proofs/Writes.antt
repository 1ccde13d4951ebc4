-- The writes of an assignment are to cells of the design.
use Rattle.std.proofs.Common.{◌≡◌, inl, inr, ⊎_elim, ℕ, zero, suc, ◌+◌, ◌*◌, ◌<◌, ◌≤◌, ◌&&◌, Bool, true, false, if◌then◌else◌, List, [], ◌∷◌, ◌++◌, map, length, take, drop, min, max, ℤ, pos, negsuc, ◌+ℤ◌, Option, Some, None, refl, sym, ap, subst, ◌∙◌, arith}
use Rattle.std.specs.Prelude.{nat_le, nat_lt}
use Rattle.std.specs.List.{range_with_len}
use Rattle.std.proofs.lemmas.Bool.{and_parts, cases_lt, false_from_ne_true, leb-true, lt-ltb, ltb-true}
use Rattle.std.proofs.lemmas.List.Elements.{All-append, All-cons, All-head, All-nil, All-tail}
use Rattle.body_replay.specs.event_machine.Cell.{Cell, same_cell}
use Rattle.design_model.specs.four_state.declared.bit.Bit.{Bit}
use Rattle.design_model.specs.four_state.Parts.{index, within}
use Rattle.design_model.specs.Assignment.{option_cell, signal_range, targets_width}
use Rattle.design_model.specs.BodyLaws.{all_cells, word_indexes, words_cells}
use Rattle.design_model.specs.Design.{Design, In, cell, is_memory, memory_at, signal_at, signal_cells, word_cells}
use Rattle.design_model.specs.declared.design.Memory.{Memory}
use Rattle.design_model.specs.Shape.{are_targets, is_target}
use Rattle.design_model.specs.Tree.{Target, Targets, a_target, all_of, bits_of, no_targets, several, word_of}
use Rattle.design_model.specs.Value.{head, named_word, offset_option}
use Rattle.body_replay.specs.KnownBits.{KnownBits, on_whole, whole_bits}
use Rattle.body_replay.specs.Store.{Kept, KnownWrite, keep_write, known_bit_option, known_bit_writes, known_value, known_word_writes, known_writes, known_writes_all, may_name, perhaps_cell, perhaps_cells, perhaps_words, weaken, words, write_bit, writes_of}
use Rattle.body_replay.proofs.Writes.{same_cell_eq}
use Rattle.run_cells.specs.Cells.{AreInside, InsideKeptLaw}

-- ---- the cells of a design

-- the cell is one of the design
abbrev pub IsOf : Design → Cell → Type 0
IsOf d c = In c (all_cells d c.thing)

in_left : (c : Cell) (xs ys : List Cell) → In c xs → In c (xs ++ ys)
in_left c [] ys i = absurd i
in_left c (x ∷ xs) ys (inl e) = inl e
in_left c (x ∷ xs) ys (inr i) = inr (in_left c xs ys i)

in_right : (c : Cell) (xs ys : List Cell) → In c ys → In c (xs ++ ys)
in_right c [] ys i = i
in_right c (x ∷ xs) ys i = inr (in_right c xs ys i)

number_has : (n k i : ℕ) → n ≤ i → i < n + k → In i (range_with_len n k)
number_has n zero i a b = absurd (omega (arith, a, b))
number_has n (suc k) i a b = ⊎_elim (λ over. inr (number_has (n + 1) k i (omega (arith, over)) (omega (arith, b)))) (λ same. inl (omega (arith, a, same))) (cases_lt n i)

-- the thing and the number of a cell of a row
row_has : (x : ℕ) (f : ℕ → ℕ) (ks : List ℕ) (c : Cell) → In c (map (λ k. cell x (f k)) ks) → c.thing ≡ x
row_has x f [] c i = absurd i
row_has x f (k ∷ ks) c (inl e) = sym (ap (λ z. z.thing) e)
row_has x f (k ∷ ks) c (inr i) = row_has x f ks c i

in_row : (x : ℕ) (ks : List ℕ) (k : ℕ) → In k ks → In (cell x k) (map (cell x) ks)
in_row x [] k i = absurd i
in_row x (j ∷ js) k (inl e) = inl (ap (cell x) e)
in_row x (j ∷ js) k (inr i) = inr (in_row x js k i)

words_have : (d : Design) (m i : ℕ) (is : List ℕ) (c : Cell) → In i is → In c (word_cells d m i) → In c (words_cells d m is)
words_have d m i [] c h k = absurd h
words_have d m i (j ∷ js) c (inl e) k = in_left c (word_cells d m j) _ (subst (λ z. In c (word_cells d m z)) (sym e) k)
words_have d m i (j ∷ js) c (inr h) k = in_right c (word_cells d m j) _ (words_have d m i js c h k)

module _ (d : Design) where
  of_signal : (s : ℕ) (c : Cell) → s < length d.signals → In c (signal_cells d s) → IsOf d c
  of_signal s c less i =
      subst (λ z. In c (all_cells d z)) (sym (row_has s (λ k. k) (range_with_len 0 (signal_at d s).width) c i))
      (subst (λ b. In c (if b then signal_cells d s else words_cells d s (word_indexes d s))) (sym (lt-ltb s (length d.signals) less)) i)

  of_word : (m i : ℕ) (c : Cell) → is_memory d m ≡ true → In i (word_indexes d m) → In c (word_cells d m i) → IsOf d c
  of_word m i c is named inside = subst (λ z. In c (all_cells d z)) (sym (row_has m (λ k. i * (memory_at d m).width + k) (range_with_len 0 (memory_at d m).width) c inside)) (by_test (nat_lt m (length d.signals)) refl)
    where
      by_test : (b : Bool) → nat_lt m (length d.signals) ≡ b → In c (if b then signal_cells d m else words_cells d m (word_indexes d m))
      by_test false is_no = words_have d m i (word_indexes d m) c named inside
      by_test true is_yes =
          let less = ltb-true m (length d.signals) is_yes in
          let most = leb-true (length d.signals) m (and_parts (nat_le (length d.signals) m) _ is).0 in
          absurd (omega (arith, less, most))

  -- a word that an index names
  named_has : (m i : ℕ) (o : Option ℤ) → named_word (memory_at d m) o ≡ Some i → In i (word_indexes d m)
  named_has m i None e = absurd cc
  named_has m i (Some (negsuc k)) e = absurd cc
  named_has m i (Some (pos k)) e = by_test (nat_le (min y.first y.last) k && nat_le k (max y.first y.last)) refl e
    where
      y : Memory
      y = memory_at d m

      by_test : (b : Bool) → (nat_le (min y.first y.last) k && nat_le k (max y.first y.last)) ≡ b → (if b then Some k else None) ≡ Some i → In i (word_indexes d m)
      by_test false is e = absurd cc
      by_test true is e =
          let p = and_parts (nat_le (min y.first y.last) k) _ is in
          let same : k ≡ i = cc in
          subst (λ z. In z (word_indexes d m)) same (number_has (min y.first y.last) _ k (leb-true _ _ p.0) (let below : k ≤ max y.first y.last = leb-true _ _ p.1 in let above : min y.first y.last ≤ k = leb-true _ _ p.0 in omega arith))

  -- ---- the writes of a target

  -- all of the list are cells of the design
  abbrev AreOf : List Cell → Type 0
  AreOf cs = (c : Cell) → In c cs → IsOf d c

  inside_none : AreInside d []
  inside_none = All-nil (λ w. IsOf d w.cell)

  inside_one : (w : KnownWrite) (ws : List KnownWrite) → IsOf d w.cell → AreInside d ws → AreInside d (w ∷ ws)
  inside_one w ws is rest = All-cons (λ w. IsOf d w.cell) w ws is rest

  pub inside_both : (ws vs : List KnownWrite) → AreInside d ws → AreInside d vs → AreInside d (ws ++ vs)
  inside_both ws vs a b = All-append (λ w. IsOf d w.cell) ws vs a b

  pub inside_weak : (ws : List KnownWrite) → AreInside d ws → AreInside d (weaken ws)
  inside_weak [] a = a
  inside_weak (w ∷ ws) a = inside_one (record w { certain = false }) (weaken ws) (All-head (λ w. IsOf d w.cell) w ws a) (inside_weak ws (All-tail (λ w. IsOf d w.cell) w ws a))

  writes_inside : (cs : List Cell) (ps : KnownBits) → AreOf cs → AreInside d (writes_of cs ps)
  writes_inside [] ps of = inside_none
  writes_inside (c ∷ cs) [] of = inside_none
  writes_inside (c ∷ cs) (p ∷ ps) of = inside_one _ _ (of c (inl refl)) (writes_inside cs ps (λ x i. of x (inr i)))

  cell_inside : (c : Cell) (ps : KnownBits) → IsOf d c → AreInside d (perhaps_cell c ps)
  cell_inside c [] is = inside_none
  cell_inside c (p ∷ ps) is = inside_one _ _ is (cell_inside c ps is)

  cells_inside : (cs : List Cell) (ps : KnownBits) → AreOf cs → AreInside d (perhaps_cells cs ps)
  cells_inside [] ps of = inside_none
  cells_inside (c ∷ cs) ps of = inside_both (perhaps_cell c ps) (perhaps_cells cs ps) (cell_inside c ps (of c (inl refl))) (cells_inside cs ps (λ x i. of x (inr i)))

  module _ (s : ℕ) (less : s < length d.signals) where
    place_of : (from : ℤ) (o : Option ℕ) → within (signal_at d s).width from ≡ o → AreOf (option_cell s o)
    place_of from None e c i = absurd i
    place_of from (Some k) e c (inr i) = absurd i
    place_of (negsuc n) (Some k) e c (inl same) = absurd cc
    place_of (pos n) (Some k) e c (inl same) = by_test (nat_lt n (signal_at d s).width) refl e
      where
        by_test : (b : Bool) → nat_lt n (signal_at d s).width ≡ b → (if b then Some n else None) ≡ Some k → IsOf d c
        by_test false is f = absurd cc
        by_test true is f =
            let same_place : n ≡ k = cc in
            let below = ltb-true n (signal_at d s).width is in
            of_signal s c less (subst (λ z. In z (signal_cells d s)) (ap (cell s) same_place ∙ same) (in_row s (range_with_len 0 (signal_at d s).width) n (number_has 0 (signal_at d s).width n (omega arith) (omega (arith, below)))))

    bits_inside : (from : ℤ) (ps : KnownBits) → AreInside d (known_bit_writes s (signal_at d s).width from ps)
    bits_inside from [] = inside_none
    bits_inside from (p ∷ ps) =
        inside_both (writes_of (option_cell s (within (signal_at d s).width from)) (p ∷ [])) (known_bit_writes s (signal_at d s).width (from +ℤ pos 1) ps)
        (writes_inside (option_cell s (within (signal_at d s).width from)) (p ∷ []) (place_of from (within (signal_at d s).width from) refl)) (bits_inside (from +ℤ pos 1) ps)

    option_inside : (o : Option ℤ) (ps : KnownBits) → AreInside d (known_bit_option s (signal_at d s).width o ps)
    option_inside None ps = inside_none
    option_inside (Some from) ps = bits_inside from ps

  module _ (m : ℕ) (is : is_memory d m ≡ true) where
    word_inside : (o : Option ℤ) (n : Option ℕ) (ps : KnownBits) → named_word (memory_at d m) o ≡ n → AreInside d (known_word_writes d m n ps)
    word_inside o None ps e = inside_none
    word_inside o (Some i) ps e = writes_inside (word_cells d m i) ps (λ c inside. of_word m i c is (named_has m i o e) inside)

    words_inside : (may : ℕ → Bool) (js : List ℕ) (ps : KnownBits) → ((i : ℕ) → In i js → In i (word_indexes d m)) → AreInside d (perhaps_words d m may js ps)
    words_inside may [] ps all = inside_none
    words_inside may (j ∷ js) ps all = go (words_inside may js ps (λ i h. all i (inr h))) (may j)
      where
        go : AreInside d (perhaps_words d m may js ps) → (t : Bool) → AreInside d (if t then weaken (writes_of (word_cells d m j) ps) ++ perhaps_words d m may js ps else perhaps_words d m may js ps)
        go rest true = inside_both (weaken (writes_of (word_cells d m j) ps)) (perhaps_words d m may js ps) (inside_weak (writes_of (word_cells d m j) ps) (writes_inside (word_cells d m j) ps (λ c inside. of_word m j c is (all j (inl refl)) inside))) rest
        go rest false = rest

  on_either : {A : Type 0} (P : A → Type 0) (o : Option (List Bit)) (f : List Bit → A) (x : A) → ((bs : List Bit) → P (f bs)) → P x → P (on_whole o f x)
  on_either P None f x h k = k
  on_either P (Some bs) f x h k = h bs

  mutual
    pub target_inside : (b : Kept) (x : Target) (ps : KnownBits) → is_target d x ≡ true → AreInside d (known_writes d b x ps)
    target_inside b (all_of s) ps is = writes_inside (signal_cells d s) ps (λ c i. of_signal s c (ltb-true s (length d.signals) is) i)
    target_inside b (bits_of s low w) ps is =
        let less : s < length d.signals = ltb-true s (length d.signals) (and_parts (nat_lt s (length d.signals)) _ (and_parts _ (nat_le 1 w) is).0).0 in
        on_either (AreInside d) (whole_bits (known_value d b low)) (λ bs. known_bit_option s (signal_at d s).width (offset_option (signal_range d s) (index (head low).signed bs)) ps) (perhaps_cells (signal_cells d s) ps)
        (λ bs. option_inside s less (offset_option (signal_range d s) (index (head low).signed bs)) ps) (cells_inside (signal_cells d s) ps (λ c i. of_signal s c less i))
    target_inside b (word_of m i) ps is =
        let memory : is_memory d m ≡ true = (and_parts (is_memory d m) _ is).0 in
        on_either (AreInside d) (whole_bits (known_value d b i)) (λ bs. known_word_writes d m (named_word (memory_at d m) (index (head i).signed bs)) ps) (perhaps_words d m (may_name (memory_at d m) (head i).signed (known_value d b i)) (words (memory_at d m)) ps)
        (λ bs. word_inside m memory (index (head i).signed bs) _ ps refl) (words_inside m memory (may_name (memory_at d m) (head i).signed (known_value d b i)) (words (memory_at d m)) ps (λ j h. h))
    target_inside b (several ts) ps is = targets_inside b ts ps is

    targets_inside : (b : Kept) (ts : Targets) (ps : KnownBits) → are_targets d ts ≡ true → AreInside d (known_writes_all d b ts ps)
    targets_inside b no_targets ps is = inside_none
    targets_inside b (a_target t ts) ps is =
        let parts = and_parts (is_target d t) (are_targets d ts) is in
        inside_both (known_writes d b t (drop (targets_width d ts) ps)) (known_writes_all d b ts (take (targets_width d ts) ps)) (target_inside b t (drop (targets_width d ts) ps) parts.0) (targets_inside b ts (take (targets_width d ts) ps) parts.1)

-- ---- other cells

pub inside_kept : InsideKeptLaw
inside_kept d [] k c inside outside = refl
inside_kept d (w ∷ ws) k c inside outside =
    inside_kept d ws (keep_write k w) c (All-tail (λ w. IsOf d w.cell) w ws inside) outside
    ∙ ap (λ t. if t then write_bit w.certain w.value (k c) else k c) (false_from_ne_true (same_cell w.cell c) (λ e. outside (subst (IsOf d) (same_cell_eq w.cell c e) (All-head (λ w. IsOf d w.cell) w ws inside))))
