-- Arithmetic and relations of two operands: x everywhere for an operand with x or z.
use Rattle.std.proofs.Common.{◌≡◌, ℕ, ◌+◌, ◌*◌, Bool, true, false, ◌&&◌, if◌then◌else◌, List, [], ◌∷◌, ◌++◌, map, length, Option, Some, None, ℤ, pos, negsuc, refl, ap, ap₂, arith, sym, ◌∙◌, ⊎_elim}
use Rattle.std.proofs.lemmas.Bool.{and_parts, cases_Bool, eqb-true}
use Rattle.std.proofs.lemmas.List.Folds.{list_all-append}
use Rattle.four_state.specs.declared.bit.Bit.{Bit}
use Rattle.four_state.specs.declared.bit.Bit.TheVariants.{Zero, One, X, Z}
use Rattle.four_state.specs.Vector.{all_known, is_known, is_one, bit_of, fill, top}
use Rattle.four_state.specs.Arithmetic.{not_bit, natural, cut, whole, is_natural_zero, arithmetic, division, relation}
use Rattle.known_state.specs.Partly.{allows_bits, allows_bit, filled}
use Rattle.known_state.proofs.Allowed.{length-allowed, length-filled}
use Rattle.known_state.proofs.Cases.{both_true, same_bit_eq}
use Rattle.known_state.proofs.Strict.{IsStrict, same, apart, strict_if, known_for_one, known_for_x, known-cut, known-bit_of}
use Rattle.known_state.proofs.Widths.{length-cut}

known_append : (bs cs : List Bit) → all_known (bs ++ cs) ≡ (all_known bs && all_known cs)
known_append bs cs = list_all-append is_known bs cs

module _ (ps qs : List (Option Bit)) (bs cs : List Bit) (h : allows_bits ps bs ≡ true) (k : allows_bits qs cs ≡ true) where
  -- where the vectors with x are known they are the only ones
  only : all_known (filled X ps ++ filled X qs) ≡ true → (bs ≡ filled X ps) × (cs ≡ filled X qs)
  only e =
      let parts = and_parts _ _ (sym (known_append (filled X ps) (filled X qs)) ∙ e) in
      (known_for_x ps bs h parts.0, known_for_x qs cs k parts.1)

  -- and where two vectors are known, so are those with 1
  one_known : all_known (bs ++ cs) ≡ true → all_known (filled One ps ++ filled One qs) ≡ true
  one_known e =
      let parts = and_parts _ _ (sym (known_append bs cs) ∙ e) in
      known_append (filled One ps) (filled One qs) ∙ both_true _ _ (known_for_one ps bs h parts.0) (known_for_one qs cs k parts.1)

  same_known : all_known (filled X ps ++ filled X qs) ≡ true → all_known (bs ++ cs) ≡ true
  same_known e = let o = only e in ap₂ (λ xs ys. all_known (xs ++ ys)) o.0 o.1 ∙ e

  width : (b : Bit) → length (filled b ps) ≡ length bs
  width b = length-filled b ps ∙ length-allowed ps bs h

  pub arithmetic_strict : (f : ℤ → ℤ → ℤ) (s : Bool) → IsStrict (length bs) (arithmetic f s (filled One ps) (filled One qs)) (arithmetic f s (filled X ps) (filled X qs)) (arithmetic f s bs cs)
  arithmetic_strict f s =
      strict_if (all_known (filled One ps ++ filled One qs)) (all_known (filled X ps ++ filled X qs)) (all_known (bs ++ cs)) _ _ (length bs) (cut (length (filled One ps)) (f (whole s (filled One ps)) (whole s (filled One qs)))) (cut (length (filled X ps)) (f (whole s (filled X ps)) (whole s (filled X qs)))) (cut (length bs) (f (whole s bs) (whole s cs))) (width One) (width X)
      (λ e. (same_known e, ap₂ (λ xs ys. cut (length xs) (f (whole s xs) (whole s ys))) (only e).0 (only e).1))
      (λ e. (one_known e, known-cut (length (filled One ps)) _))
      (length-cut (length (filled One ps)) _ ∙ width One)

  pub relation_strict : (f : ℤ → ℤ → Bool) (s : Bool) → IsStrict 1 (relation f s (filled One ps) (filled One qs)) (relation f s (filled X ps) (filled X qs)) (relation f s bs cs)
  relation_strict f s =
      strict_if (all_known (filled One ps ++ filled One qs)) (all_known (filled X ps ++ filled X qs)) (all_known (bs ++ cs)) 1 1 1 (bit_of (f (whole s (filled One ps)) (whole s (filled One qs))) ∷ []) (bit_of (f (whole s (filled X ps)) (whole s (filled X qs))) ∷ []) (bit_of (f (whole s bs) (whole s cs)) ∷ []) refl refl
      (λ e. (same_known e, ap₂ (λ xs ys. bit_of (f (whole s xs) (whole s ys)) ∷ []) (only e).0 (only e).1))
      (λ e. (one_known e, both_true _ _ (known-bit_of _) refl))
      refl

-- ---- a divisor that is 0

zero_parts : (b : Bit) (n : ℕ) → (if is_one b then 1 else 0) + 2 * n ≡ 0 → (is_one b ≡ false) × (n ≡ 0)
zero_parts Zero n h = (refl, omega arith)
zero_parts One n h = absurd (omega arith)
zero_parts X n h = (refl, omega arith)
zero_parts Z n h = (refl, omega arith)

-- the vector with 1 is 0 only where all bits are sure, so it is the only one
zero_only : (qs : List (Option Bit)) (cs : List Bit) → allows_bits qs cs ≡ true → all_known (filled One qs) ≡ true → natural (filled One qs) ≡ 0 → cs ≡ filled One qs
zero_only [] [] h k z = refl
zero_only [] (c ∷ cs) h k z = cc
zero_only (q ∷ qs) [] h k z = cc
zero_only (None ∷ qs) (c ∷ cs) h k z = absurd (omega arith)
zero_only (Some a ∷ qs) (c ∷ cs) h k z =
    let here = and_parts (allows_bit (Some a) c) (allows_bits qs cs) h in
    let known = and_parts (is_known a) (all_known (filled One qs)) k in
    ap (λ x. x ∷ cs) (sym (same_bit_eq a c here.0)) ∙ ap (λ xs. a ∷ xs) (zero_only qs cs here.1 known.1 (zero_parts a (natural (filled One qs)) z).1)

zero_number : (s : Bool) (bs : List Bit) → is_natural_zero (whole s bs) ≡ true → natural bs ≡ 0
zero_number s bs h = go (s && is_one (top bs)) h
  where
    go : (t : Bool) → is_natural_zero (if t then negsuc (natural (map not_bit bs)) else pos (natural bs)) ≡ true → natural bs ≡ 0
    go true e = cc
    go false e = eqb-true (natural bs) 0 e

undivided : (z k : Bool) (w : ℕ) (r : List Bit) → k ≡ false → (if z then fill w X else (if k then r else fill w X)) ≡ fill w X
undivided true k w r e = refl
undivided false true w r e = cc
undivided false false w r e = refl

divided : (z k : Bool) (w : ℕ) (r : List Bit) → z ≡ false → k ≡ true → (if z then fill w X else (if k then r else fill w X)) ≡ r
divided false true w r e d = refl
divided false false w r e d = cc
divided true k w r e d = cc

by_zero : (z : Bool) (w : ℕ) (r : List Bit) → z ≡ true → (if z then fill w X else r) ≡ fill w X
by_zero true w r e = refl
by_zero false w r e = cc

module _ (f : ℤ → ℤ → ℤ) (s : Bool) (ps qs : List (Option Bit)) (bs cs : List Bit) (h : allows_bits ps bs ≡ true) (k : allows_bits qs cs ≡ true) where
  unknown_division : (xs ys : List Bit) → all_known (xs ++ ys) ≡ false → division f s xs ys ≡ fill (length xs) X
  unknown_division xs ys e = undivided (is_natural_zero (whole s ys)) (all_known (xs ++ ys)) (length xs) (cut (length xs) (f (whole s xs) (whole s ys))) e

  strange : all_known (filled X ps ++ filled X qs) ≡ false → division f s (filled X ps) (filled X qs) ≡ fill (length bs) X
  strange e = unknown_division (filled X ps) (filled X qs) e ∙ ap (λ n. fill n X) (length-filled X ps ∙ length-allowed ps bs h)

  of_zero : all_known (filled X ps ++ filled X qs) ≡ false → all_known (bs ++ cs) ≡ true → is_natural_zero (whole s (filled One qs)) ≡ true → IsStrict (length bs) (division f s (filled One ps) (filled One qs)) (division f s (filled X ps) (filled X qs)) (division f s bs cs)
  of_zero e known z =
      let one = (and_parts _ _ (sym (known_append (filled One ps) (filled One qs)) ∙ one_known ps qs bs cs h k known)).1 in
      let only_one = zero_only qs cs k one (zero_number s (filled One qs) z) in
      same (by_zero (is_natural_zero (whole s cs)) (length bs) (arithmetic f s bs cs) (ap (λ xs. is_natural_zero (whole s xs)) only_one ∙ z) ∙ sym (strange e))

  of_other : all_known (filled X ps ++ filled X qs) ≡ false → all_known (bs ++ cs) ≡ true → is_natural_zero (whole s (filled One qs)) ≡ false → IsStrict (length bs) (division f s (filled One ps) (filled One qs)) (division f s (filled X ps) (filled X qs)) (division f s bs cs)
  of_other e known z =
      let one = divided (is_natural_zero (whole s (filled One qs))) (all_known (filled One ps ++ filled One qs)) (length (filled One ps)) (cut (length (filled One ps)) (f (whole s (filled One ps)) (whole s (filled One qs)))) z (one_known ps qs bs cs h k known) in
      apart (ap all_known one ∙ known-cut (length (filled One ps)) _) (ap length one ∙ length-cut (length (filled One ps)) _ ∙ length-filled One ps ∙ length-allowed ps bs h) (strange e)

  of_unknown : all_known (filled X ps ++ filled X qs) ≡ false → IsStrict (length bs) (division f s (filled One ps) (filled One qs)) (division f s (filled X ps) (filled X qs)) (division f s bs cs)
  of_unknown e =
      ⊎_elim (λ known. ⊎_elim (of_zero e known) (of_other e known) (cases_Bool (is_natural_zero (whole s (filled One qs))))) (λ unknown. same (unknown_division bs cs unknown ∙ sym (strange e))) (cases_Bool (all_known (bs ++ cs)))

  pub division_strict : IsStrict (length bs) (division f s (filled One ps) (filled One qs)) (division f s (filled X ps) (filled X qs)) (division f s bs cs)
  division_strict =
      ⊎_elim (λ e. let o = only ps qs bs cs h k e in same (ap₂ (division f s) o.0 o.1)) of_unknown (cases_Bool (all_known (filled X ps ++ filled X qs)))
