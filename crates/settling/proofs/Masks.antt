-- Whether some place of a mask is set.
use Rattle.std.proofs.Common.{◌≡◌, ℕ, zero, suc, ◌+◌, ◌<◌, ◌≤◌, ◌==◌, ◌&&◌, ◌||◌, ◌^◌, Bool, true, false, not, List, [], ◌∷◌, length, refl, sym, ap, ap₂, ◌∙◌, arith, lt_of_le_of_lt, bit_and, inl, inr}
use Rattle.std.specs.Prelude.{nat_lt}
use Rattle.std.specs.List.{list_all, list_any, range_with_len}
use Rattle.std.proofs.lemmas.Bool.{and_parts, cases_eq, false≢true, ltb-true}
use Rattle.std.proofs.lemmas.Bool.Decides.{nat_tests}
use Rattle.std.proofs.lemmas.Nat.{and_le_r, pow_pos}
use Rattle.event_machine.specs.Cell.{Cell}
use Rattle.four_state.specs.Masks.{is_set}
use Rattle.four_state.proofs.Places.{is_set-and, is_set-zero, same_from_places}
use Rattle.design_model.specs.Design.{Design, cell, signal_at}
use Rattle.settled_runs.proofs.process_targets.Masks.{mask_inside}
use Rattle.step_parts.specs.replay_model.Step.{wake_cells}
use Rattle.wake_bits.specs.Laws.{IsWakeOf}
use Rattle.wake_bits.specs.declared.wakes.Wake.{Wake}
use Rattle.wake_bits.proofs.Cells.{each_wake_law, some_wake_law}

-- two tests of the numbers of a range
pub any_below : (f g : ℕ → Bool) (n w : ℕ) → ((j : ℕ) → n ≤ j → j < n + w → f j ≡ g j) → list_any f (range_with_len n w) ≡ list_any g (range_with_len n w)
any_below f g n zero same = refl
any_below f g n (suc w) same = ap₂ (λ a b. a || b) (same n (omega arith) (omega arith)) (any_below f g (n + 1) w (λ j l m. same j (omega (arith, l)) (omega (arith, m))))

none_at : (f : ℕ → Bool) (n w : ℕ) → list_any f (range_with_len n w) ≡ false → (j : ℕ) → n ≤ j → j < n + w → f j ≡ false
none_at f n zero none j l m = absurd (omega (arith, l, m))
none_at f n (suc w) none j l m = elim (cases_eq j n) [
  | inl e ↦ ap f e ∙ first_no (f n) (list_any f (range_with_len (n + 1) w)) none
  | inr ne ↦ none_at f (n + 1) w (rest_no (f n) (list_any f (range_with_len (n + 1) w)) none) j (omega (arith, l, ne)) (omega (arith, m))
]
  where
    first_no : (a b : Bool) → (a || b) ≡ false → a ≡ false
    first_no true b e = e
    first_no false b e = refl

    rest_no : (a b : Bool) → (a || b) ≡ false → b ≡ false
    rest_no true b e = absurd (false≢true (sym e))
    rest_no false b e = e

all_none : (f : ℕ → Bool) (n w : ℕ) → ((j : ℕ) → f j ≡ false) → list_any f (range_with_len n w) ≡ false
all_none f n zero none = refl
all_none f n (suc w) none = ap₂ (λ a b. a || b) (none n) (all_none f (n + 1) w none)

-- a mask is not 0 exactly where some place is set
pub some_set : (m w : ℕ) → m < 2 ^ w → not (m == 0) ≡ list_any (is_set m) (range_with_len 0 w)
some_set m w l = go (list_any (is_set m) (range_with_len 0 w)) refl
  where
    go : (t : Bool) → list_any (is_set m) (range_with_len 0 w) ≡ t → not (m == 0) ≡ t
    go false none =
        let zero : m ≡ 0 = same_from_places w m 0 l (pow_pos w) (λ i b. none_at (is_set m) 0 w none i (omega arith) (omega (arith, b)) ∙ sym (is_set-zero i)) in
        ap (λ k. not (k == 0)) zero
    go true some = elim (cases_eq m 0) [
      | inl e ↦ absurd (false≢true (sym (ap (λ k. list_any (is_set k) (range_with_len 0 w)) e ∙ all_none (is_set 0) 0 w is_set-zero) ∙ some))
      | inr ne ↦ grind (arith, nat_tests, ne)
    ]

-- some do not pass a test where not all pass it
not_all : (f : ℕ → Bool) (js : List ℕ) → not (list_all f js) ≡ list_any (λ j. not (f j)) js
not_all f [] = refl
not_all f (j ∷ js) = go (f j) (not_all f js)
  where
    go : (t : Bool) → not (list_all f js) ≡ list_any (λ i. not (f i)) js → not (t && list_all f js) ≡ (not t || list_any (λ i. not (f i)) js)
    go true e = e
    go false e = refl

both_ways : (a b : Bool) → (a && b) ≡ (b && a)
both_ways true true = refl
both_ways true false = refl
both_ways false true = refl
both_ways false false = refl

unless : (a b : Bool) → (not b && a) ≡ not (not a || b)
unless true true = refl
unless true false = refl
unless false true = refl
unless false false = refl

-- ---- the mask of what wakes a process

module _ (d : Design) (p : ℕ) (y : Wake) (wake : IsWakeOf d p y) (signal : y.thing < length d.signals) where
  abbrev s : ℕ
  s = y.thing

  abbrev width : ℕ
  width = (signal_at d s).width

  small : y.mask < 2 ^ width
  small = mask_inside y.mask width (λ i set. ltb-true i width (and_parts (nat_lt i width) _ (sym (wake.places i) ∙ set)).0)

  some_both : (m : ℕ) → not (bit_and m y.mask == 0) ≡ list_any (λ j. is_set m j && is_set y.mask j) (range_with_len 0 width)
  some_both m = some_set (bit_and m y.mask) width (lt_of_le_of_lt (and_le_r m y.mask) small) ∙ any_below _ _ 0 width (λ j l b. is_set-and m y.mask j)

  -- some place of both masks is set where some wake cell passes the test of the first
  pub some_free : (m : ℕ) (f : Cell → Bool) → ((j : ℕ) → j < width → is_set m j ≡ f (cell s j)) → not (bit_and m y.mask == 0) ≡ list_any f (wake_cells d p s)
  some_free m f here =
      some_both m
      ∙ any_below _ _ 0 width (λ j l b. both_ways (is_set m j) (is_set y.mask j) ∙ ap (λ t. is_set y.mask j && t) (here j (omega (arith, b))))
      ∙ sym (some_wake_law d p y f wake signal)

  -- none is where each passes it
  pub not_all_free : (m : ℕ) (f : Cell → Bool) → ((j : ℕ) → j < width → is_set m j ≡ not (f (cell s j))) → not (bit_and m y.mask == 0) ≡ not (list_all f (wake_cells d p s))
  not_all_free m f here =
      some_both m
      ∙ any_below _ _ 0 width (λ j l b. ap (λ t. t && is_set y.mask j) (here j (omega (arith, b))) ∙ unless (is_set y.mask j) (f (cell s j)))
      ∙ sym (not_all (λ j. not (is_set y.mask j) || f (cell s j)) (range_with_len 0 width))
      ∙ ap not (sym (each_wake_law d p y f wake signal))

  -- no wake cell passes a test that no cell of the signal passes
  pub none_free : (f : Cell → Bool) → ((j : ℕ) → f (cell s j) ≡ false) → list_any f (wake_cells d p s) ≡ false
  none_free f none =
      some_wake_law d p y f wake signal
      ∙ all_none (λ j. is_set y.mask j && f (cell s j)) 0 width (λ j. ap (λ t. is_set y.mask j && t) (none j) ∙ both_ways (is_set y.mask j) false)
