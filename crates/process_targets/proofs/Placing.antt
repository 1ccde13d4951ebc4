-- The places of signals in a row that bits are added to.
use Rattle.std.proofs.Common.{◌≡◌, ◌≢◌, ◌∙◌, ⊎_elim, inl, inr, ℕ, zero, suc, ◌+◌, ◌<◌, ◌==◌, ◌&&◌, ◌||◌, Bool, true, false, List, [], ◌∷◌, map, length, get_or, slice_set, refl, sym, ap, ap₂, subst, arith, eq-eqb}
use Rattle.std.proofs.Math.ListN.{get_or-map}
use Rattle.std.proofs.lemmas.Bool.{cases_lt, eqb-true, true≢false}
use Rattle.std.proofs.lemmas.List.{get_or-set_other, get_or-set_same, length-map, length-set}
use Rattle.std.proofs.lemmas.List.Elements.{All-from_get_or}
use Rattle.std.proofs.lemmas.List.Folds.{list_any_at, list_any_none}
use Rattle.four_state.specs.Masks.{is_set}
use Rattle.design_model.specs.Design.{AreDistinct, In, cell}
use Rattle.process_targets.specs.Placed.{ArePlaced, no_bits}
use Rattle.process_targets.specs.Targets.{IsOnce, has_bit, names, row_has}
use Rattle.process_targets.specs.declared.bits.Bits.{Bits}
use Rattle.process_targets.proofs.RowLemmas.{with_mask}

put_signal : (xs : List Bits) (k j m : ℕ) (d : Bits) → k < length xs → (get_or (slice_set xs k (with_mask (get_or xs k d) m)) j no_bits).signal ≡ (get_or xs j no_bits).signal
put_signal [] k j m d l = absurd (omega arith)
put_signal (x ∷ xs) zero zero m d l = refl
put_signal (x ∷ xs) zero (suc j) m d l = refl
put_signal (x ∷ xs) (suc k) zero m d l = refl
put_signal (x ∷ xs) (suc k) (suc j) m d l = put_signal xs k j m d (omega arith)

pub put_placed : (xs : List Bits) (places : List ℕ) (k m : ℕ) (d : Bits) → k < length xs → ArePlaced xs places → ArePlaced (slice_set xs k (with_mask (get_or xs k d) m)) places
put_placed xs places k m d l h j lj =
    ap (λ s. get_or places s 0) (put_signal xs k j m d l) ∙ h j (subst (λ n. j < n) (length-set xs k (with_mask (get_or xs k d) m)) lj)

-- a signal of the row is named
pub named_at : (xs : List Bits) (j s : ℕ) → j < length xs → (get_or xs j no_bits).signal ≡ s → names xs s ≡ true
named_at xs j s l e = list_any_at (λ b. b.signal == s) xs j no_bits l (eq-eqb (get_or xs j no_bits).signal s e)

in_at : (x : ℕ) (xs : List ℕ) → In x xs → (k : ℕ) × (k < length xs) × (get_or xs k 0 ≡ x)
in_at x [] h = absurd h
in_at x (y ∷ xs) (inl e) = (0, omega arith, e)
in_at x (y ∷ xs) (inr h) = let k = in_at x xs h in (suc k.0, omega (arith, k.1), k.2)

distinct_by : (ns : List ℕ) → ((i j : ℕ) → i < length ns → j < length ns → get_or ns i 0 ≡ get_or ns j 0 → i ≡ j) → AreDistinct ns
distinct_by [] h = tt
distinct_by (n ∷ ns) h = (λ m. let k = in_at n ns m in absurd (omega (arith, h 0 (suc k.0) (omega arith) (omega (arith, k.1)) (sym k.2))), distinct_by ns (λ i j li lj e. omega (arith, h (suc i) (suc j) (omega (arith, li)) (omega (arith, lj)) e)))

-- a row of which each signal has its place has no signal twice
pub placed_once : (xs : List Bits) (places : List ℕ) → ArePlaced xs places → IsOnce xs
placed_once xs places h =
    distinct_by (map (λ b. b.signal) xs) (λ i j li lj e.
    sym (h i (subst (λ n. i < n) (length-map xs (λ b. b.signal)) li)) ∙ ap (λ s. get_or places s 0) (sym (get_or-map (λ b. b.signal) xs i no_bits) ∙ e ∙ get_or-map (λ b. b.signal) xs j no_bits) ∙ h j (subst (λ n. j < n) (length-map xs (λ b. b.signal)) lj))

-- a signal that is not at its place is nowhere
pub not_named : (xs : List Bits) (places : List ℕ) (s : ℕ) → ArePlaced xs places → (get_or places s 0 < length xs → (get_or xs (get_or places s 0) no_bits).signal ≢ s) → names xs s ≡ false
not_named xs places s h other =
    list_any_none (λ b. b.signal == s) xs (All-from_get_or (λ b. (b.signal == s) ≡ false) xs no_bits (λ j l. apart j l ((get_or xs j no_bits).signal == s) refl))
  where
    apart : (j : ℕ) → j < length xs → (b : Bool) → ((get_or xs j no_bits).signal == s) ≡ b → ((get_or xs j no_bits).signal == s) ≡ false
    apart j l false e = e
    apart j l true e =
        let is : (get_or xs j no_bits).signal ≡ s = eqb-true (get_or xs j no_bits).signal s e in
        let at : get_or places s 0 ≡ j = ap (λ n. get_or places n 0) (sym is) ∙ h j l in
        absurd (other (subst (λ n. n < length xs) (sym at) l) (ap (λ n. (get_or xs n no_bits).signal) at ∙ is))

in_of : (ns : List ℕ) (j x : ℕ) → j < length ns → get_or ns j 0 ≡ x → In x ns
in_of [] j x l e = absurd (omega arith)
in_of (n ∷ ns) zero x l e = inl e
in_of (n ∷ ns) (suc j) x l e = inr (in_of ns j x (omega (arith, l)) e)

distinct_at : (ns : List ℕ) (i j : ℕ) → AreDistinct ns → i < j → j < length ns → get_or ns i 0 ≢ get_or ns j 0
distinct_at [] i j once l m e = absurd (omega arith)
distinct_at (n ∷ ns) zero zero once l m e = absurd (omega arith)
distinct_at (n ∷ ns) zero (suc j) once l m e = once.0 (in_of ns j n (omega (arith, m)) (sym e))
distinct_at (n ∷ ns) (suc i) zero once l m e = absurd (omega arith)
distinct_at (n ∷ ns) (suc i) (suc j) once l m e = distinct_at ns i j once.1 (omega (arith, l)) (omega (arith, m)) e

-- the signals of the row before a place have theirs
abbrev pub ArePlacedTo : List Bits → List ℕ → ℕ → Type 0
ArePlacedTo row places n = (k : ℕ) → k < n → get_or places (get_or row k no_bits).signal 0 ≡ k

-- one signal more is given its place
pub place_more : (row : List Bits) (places : List ℕ) (n : ℕ) → IsOnce row → n < length row → (get_or row n no_bits).signal < length places → ArePlacedTo row places n
    → ArePlacedTo row (slice_set places (get_or row n no_bits).signal n) (n + 1)
place_more row places n once l below h k lk =
    ⊎_elim
    (λ m. get_or-set_other places (get_or row n no_bits).signal (get_or row k no_bits).signal n 0 (λ e. distinct_at (map (λ b. b.signal) row) k n once m (subst (λ q. n < q) (sym (length-map row (λ b. b.signal))) l) (get_or-map (λ b. b.signal) row k no_bits ∙ e ∙ sym (get_or-map (λ b. b.signal) row n no_bits))) ∙ h k m)
    (λ m. let e : k ≡ n = omega (arith, lk, m) in
    subst (λ q. get_or (slice_set places (get_or row n no_bits).signal n) (get_or row q no_bits).signal 0 ≡ q) (sym e) (get_or-set_same places (get_or row n no_bits).signal n 0 below))
    (cases_lt k n)

-- the places that a row has of a signal are those of its bits
pub placed_has : (xs : List Bits) (places : List ℕ) (k s i : ℕ) → ArePlaced xs places → k < length xs → (get_or xs k no_bits).signal ≡ s → is_set (get_or xs k no_bits).mask i ≡ row_has xs (cell s i)
placed_has xs places k s i h l is = go (is_set (get_or xs k no_bits).mask i) refl
  where
    same : (j : ℕ) → j < length xs → (get_or xs j no_bits).signal ≡ s → j ≡ k
    same j m e = sym (h j m) ∙ ap (λ n. get_or places n 0) (e ∙ sym is) ∙ h k l

    none : (j : ℕ) → j < length xs → is_set (get_or xs k no_bits).mask i ≡ false → (b : Bool) → ((get_or xs j no_bits).signal == s) ≡ b → has_bit (get_or xs j no_bits) (cell s i) ≡ false
    none j m f false e = ap (λ b. b && is_set (get_or xs j no_bits).mask i) e
    none j m f true e = ap (λ b. b && is_set (get_or xs j no_bits).mask i) e ∙ ap (λ n. is_set (get_or xs n no_bits).mask i) (same j m (eqb-true (get_or xs j no_bits).signal s e)) ∙ f

    go : (b : Bool) → is_set (get_or xs k no_bits).mask i ≡ b → is_set (get_or xs k no_bits).mask i ≡ row_has xs (cell s i)
    go true e =
        e ∙ sym (list_any_at (λ b. has_bit b (cell s i)) xs k no_bits l (ap₂ (λ p q. p && q) (eq-eqb (get_or xs k no_bits).signal s is) e))
    go false e =
        e ∙ sym (list_any_none (λ b. has_bit b (cell s i)) xs (All-from_get_or (λ b. has_bit b (cell s i) ≡ false) xs no_bits (λ j m. none j m e ((get_or xs j no_bits).signal == s) refl)))

-- of a signal that is not in the row there are no bits
pub unnamed_has : (xs : List Bits) (s i : ℕ) → names xs s ≡ false → row_has xs (cell s i) ≡ false
unnamed_has [] s i h = refl
unnamed_has (x ∷ xs) s i h = go (x.signal == s) refl h (λ e. unnamed_has xs s i e)
  where
    go : (b : Bool) → (x.signal == s) ≡ b → (b || names xs s) ≡ false → (names xs s ≡ false → row_has xs (cell s i) ≡ false) → (((x.signal == s) && is_set x.mask i) || row_has xs (cell s i)) ≡ false
    go true e h rest = absurd (true≢false h)
    go false e h rest = ap (λ b. (b && is_set x.mask i) || row_has xs (cell s i)) e ∙ rest h
