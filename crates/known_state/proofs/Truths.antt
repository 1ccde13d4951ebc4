-- The truths of the vectors that are allowed, by those of a few of them.
use Rattle.std.proofs.Common.{◌≡◌, Bool, true, false, ◌&&◌, ◌||◌, if◌then◌else◌, List, [], ◌∷◌, Option, Some, None, refl, ap, sym, ◌∙◌, ⊎_elim}
use Rattle.std.specs.List.{list_any, list_all}
use Rattle.std.proofs.lemmas.Bool.{and_parts, cases_Bool}
use Rattle.std.specs.Option.{unwrap_or}
use Rattle.four_state.specs.declared.bit.Bit.{Bit}
use Rattle.four_state.specs.declared.bit.Bit.TheVariants.{Zero, One, X}
use Rattle.four_state.specs.declared.truth.Truth.{Truth}
use Rattle.four_state.specs.declared.truth.Truth.TheVariants.{True, False, Strange}
use Rattle.four_state.specs.Vector.{is_one, is_zero, same_bit, truth}
use Rattle.known_state.specs.Partly.{allows_bits, allows_bit, filled, are_sure}
use Rattle.known_state.proofs.Allowed.{sure_allowed, filled_allowed, sure_filled}
use Rattle.known_state.proofs.Cases.{both_true, same_bit_eq}

or_right : (p q : Bool) → q ≡ true → (p || q) ≡ true
or_right true q h = refl
or_right false q h = h

-- ---- the tests that decide a truth

-- a 1 that is sure is in every vector
pub sure_one : (ps : List (Option Bit)) (bs : List Bit) → allows_bits ps bs ≡ true → list_any is_one (filled Zero ps) ≡ true → list_any is_one bs ≡ true
sure_one [] bs h e = cc
sure_one (p ∷ ps) [] h e = cc
sure_one (None ∷ ps) (b ∷ bs) h e = or_right (is_one b) _ (sure_one ps bs h e)
sure_one (Some a ∷ ps) (b ∷ bs) h e =
    let here = and_parts (same_bit a b) (allows_bits ps bs) h in
    ap (λ c. is_one c || list_any is_one bs) (sym (same_bit_eq a b here.0)) ∙ rest (is_one a) (list_any is_one (filled Zero ps)) (list_any is_one bs) e (sure_one ps bs here.1)
  where
    rest : (p q r : Bool) → (p || q) ≡ true → (q ≡ true → r ≡ true) → (p || r) ≡ true
    rest true q r h k = refl
    rest false q r h k = k h

pub some_one : (ps : List (Option Bit)) → are_sure ps ≡ false → list_any is_one (filled One ps) ≡ true
some_one [] h = cc
some_one (None ∷ ps) h = refl
some_one (Some a ∷ ps) h = or_right (is_one a) _ (some_one ps h)

pub no_one : (ps : List (Option Bit)) → list_any is_one (filled X ps) ≡ list_any is_one (filled Zero ps)
no_one [] = refl
no_one (None ∷ ps) = no_one ps
no_one (Some a ∷ ps) = ap (λ q. is_one a || q) (no_one ps)

and_false : (p q : Bool) → q ≡ false → (p && q) ≡ false
and_false true q h = h
and_false false q h = refl

pub not_all_zero : (ps : List (Option Bit)) → are_sure ps ≡ false → list_all is_zero (filled X ps) ≡ false
not_all_zero [] h = cc
not_all_zero (None ∷ ps) h = refl
not_all_zero (Some a ∷ ps) h = and_false (is_zero a) _ (not_all_zero ps h)

zero_case : (p : Option Bit) (b : Bit) → allows_bit p b ≡ true → is_zero b ≡ true → is_zero (unwrap_or p Zero) ≡ true
zero_case None b h k = refl
zero_case (Some a) b h k = ap is_zero (same_bit_eq a b h) ∙ k

pub all_zero : (ps : List (Option Bit)) (bs : List Bit) → allows_bits ps bs ≡ true → list_all is_zero bs ≡ true → list_all is_zero (filled Zero ps) ≡ true
all_zero [] bs h k = refl
all_zero (p ∷ ps) [] h k = cc
all_zero (p ∷ ps) (b ∷ bs) h k =
    let here = and_parts (allows_bit p b) (allows_bits ps bs) h in
    let zeros = and_parts (is_zero b) (list_all is_zero bs) k in
    both_true _ _ (zero_case p b here.0 zeros.0) (all_zero ps bs here.1 zeros.1)

-- ---- truths

-- the truths for 0, for 1 and for x at the bits that are not sure, and that of a vector: all are the same, or there is
-- no 1 that is sure
pub data HasTruths : Truth → Truth → Truth → Truth → Type 0 where
  whole : (t : Truth) → HasTruths t t t t
  free : (t : Truth) → HasTruths False True Strange t
  bound_true : HasTruths Strange True Strange True
  bound_strange : HasTruths Strange True Strange Strange

abbrev truth_by : Bool → Bool → Truth
truth_by one zeros = if one then True else (if zeros then False else Strange)

unsure_truths : (one zeros one_here zeros_here : Bool) → one ≡ false → (zeros_here ≡ true → zeros ≡ true) → HasTruths (truth_by one zeros) True Strange (truth_by one_here zeros_here)
unsure_truths true z o y e h = cc
unsure_truths false true o y e h = free (truth_by o y)
unsure_truths false false true y e h = bound_true
unsure_truths false false false false e h = bound_strange
unsure_truths false false false true e h = let bad = h refl in cc

one_true : (one zeros : Bool) → one ≡ true → truth_by one zeros ≡ True
one_true true z h = refl
one_true false z h = cc

none_strange : (one zeros : Bool) → one ≡ false → zeros ≡ false → truth_by one zeros ≡ Strange
none_strange false false h k = refl
none_strange false true h k = cc
none_strange true z h k = cc

module _ (ps : List (Option Bit)) (bs : List Bit) (h : allows_bits ps bs ≡ true) where
  is_true : list_any is_one (filled Zero ps) ≡ true → (cs : List Bit) → allows_bits ps cs ≡ true → truth cs ≡ True
  is_true one cs a = one_true (list_any is_one cs) (list_all is_zero cs) (sure_one ps cs a one)

  of_one : list_any is_one (filled Zero ps) ≡ true → HasTruths (truth (filled Zero ps)) (truth (filled One ps)) (truth (filled X ps)) (truth bs)
  of_one one =
      rw (is_true one (filled Zero ps) (filled_allowed Zero ps), is_true one (filled One ps) (filled_allowed One ps), is_true one (filled X ps) (filled_allowed X ps), is_true one bs h) (whole True)

  of_whole : are_sure ps ≡ true → HasTruths (truth (filled Zero ps)) (truth (filled One ps)) (truth (filled X ps)) (truth bs)
  of_whole sure =
      rw (sure_filled One Zero ps sure, sure_filled X Zero ps sure, sure_allowed Zero ps bs sure h) (whole (truth (filled Zero ps)))

  of_unsure : list_any is_one (filled Zero ps) ≡ false → are_sure ps ≡ false → HasTruths (truth (filled Zero ps)) (truth (filled One ps)) (truth (filled X ps)) (truth bs)
  of_unsure none unsure =
      rw (one_true (list_any is_one (filled One ps)) (list_all is_zero (filled One ps)) (some_one ps unsure), none_strange (list_any is_one (filled X ps)) (list_all is_zero (filled X ps)) (no_one ps ∙ none) (not_all_zero ps unsure)) (unsure_truths (list_any is_one (filled Zero ps)) (list_all is_zero (filled Zero ps)) (list_any is_one bs) (list_all is_zero bs) none (all_zero ps bs h))

  pub truths : HasTruths (truth (filled Zero ps)) (truth (filled One ps)) (truth (filled X ps)) (truth bs)
  truths = ⊎_elim of_one (λ none. ⊎_elim of_whole (of_unsure none) (cases_Bool (are_sure ps))) (cases_Bool (list_any is_one (filled Zero ps)))

-- ---- decided by trying all

abbrev pub every_truth : (Truth → Bool) → Bool
every_truth p = p True && (p False && p Strange)

every_truth_holds : (p : Truth → Bool) → every_truth p ≡ true → (t : Truth) → p t ≡ true
every_truth_holds p h True = (and_parts (p True) (p False && p Strange) h).0
every_truth_holds p h False = (and_parts (p False) (p Strange) (and_parts (p True) (p False && p Strange) h).1).0
every_truth_holds p h Strange = (and_parts (p False) (p Strange) (and_parts (p True) (p False && p Strange) h).1).1

abbrev pub each_truths : (Truth → Truth → Truth → Truth → Bool) → Bool
each_truths p = (every_truth (λ t. p t t t t) && every_truth (λ t. p False True Strange t)) && (p Strange True Strange True && p Strange True Strange Strange)

pub truths_hold : (p : Truth → Truth → Truth → Truth → Bool) → each_truths p ≡ true → {t0 t1 tx t : Truth} → HasTruths t0 t1 tx t → p t0 t1 tx t ≡ true
truths_hold p h (whole t) = every_truth_holds (λ u. p u u u u) (and_parts _ _ (and_parts _ _ h).0).0 t
truths_hold p h (free t) = every_truth_holds (λ u. p False True Strange u) (and_parts _ _ (and_parts _ _ h).0).1 t
truths_hold p h bound_true = (and_parts _ _ (and_parts _ _ h).1).0
truths_hold p h bound_strange = (and_parts _ _ (and_parts _ _ h).1).1

-- ---- one truth

truth_true : (one zeros : Bool) → truth_by one zeros ≡ True → one ≡ true
truth_true true z h = refl
truth_true false true h = cc
truth_true false false h = cc

-- a vector that is true with 0 where it is not sure is true for all values
pub true_for_all : (ps : List (Option Bit)) (bs : List Bit) → allows_bits ps bs ≡ true → truth (filled Zero ps) ≡ True → truth bs ≡ True
true_for_all ps bs h e = is_true ps bs h (truth_true (list_any is_one (filled Zero ps)) (list_all is_zero (filled Zero ps)) e) bs h

-- and with 1 where it is not sure it is true
pub true_with_one : (ps : List (Option Bit)) → are_sure ps ≡ false → truth (filled One ps) ≡ True
true_with_one ps unsure = one_true (list_any is_one (filled One ps)) (list_all is_zero (filled One ps)) (some_one ps unsure)
