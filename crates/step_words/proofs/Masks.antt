-- Whether some place of a mask is set.
use Rattle.std.proofs.Common.{◌≡◌, ℕ, zero, suc, ◌+◌, ◌-◌, ◌<◌, ◌≤◌, ◌==◌, ◌&&◌, ◌||◌, ◌^◌, Bool, true, false, not, List, [], ◌∷◌, refl, sym, ap, ap₂, ◌∙◌, arith, lt_of_le_of_lt, bit_and, inl, inr}
use Rattle.std.specs.List.{list_all, list_any, range_with_len}
use Rattle.std.proofs.lemmas.Bool.{cases_eq, false≢true}
use Rattle.std.proofs.lemmas.Bool.Decides.{nat_tests}
use Rattle.std.proofs.lemmas.Nat.{and_le_r, pow_pos}
use Rattle.four_state.specs.Masks.{is_set}
use Rattle.four_state.proofs.Places.{is_set-and, is_set-ones, is_set-zero, same_from_places}

-- two tests of the numbers of a range
pub any_below : (f g : ℕ → Bool) (n w : ℕ) → ((j : ℕ) → n ≤ j → j < n + w → f j ≡ g j) → list_any f (range_with_len n w) ≡ list_any g (range_with_len n w)
any_below f g n zero same = refl
any_below f g n (suc w) same = ap₂ (λ a b. a || b) (same n (omega arith) (omega arith)) (any_below f g (n + 1) w (λ j l m. same j (omega (arith, l)) (omega (arith, m))))

none_at : (f : ℕ → Bool) (n w : ℕ) → list_any f (range_with_len n w) ≡ false → (j : ℕ) → n ≤ j → j < n + w → f j ≡ false
none_at f n zero none j l m = absurd (omega (arith, l, m))
none_at f n (suc w) none j l m = elim (cases_eq j n) [
  | inl e ↦ ap f e ∙ first_no (f n) (list_any f (range_with_len (n + 1) w)) none
  | inr ne ↦ none_at f (n + 1) w (rest_no (f n) (list_any f (range_with_len (n + 1) w)) none) j (omega (arith, l, ne)) (omega (arith, m))
]
  where
    first_no : (a b : Bool) → (a || b) ≡ false → a ≡ false
    first_no true b e = e
    first_no false b e = refl

    rest_no : (a b : Bool) → (a || b) ≡ false → b ≡ false
    rest_no true b e = absurd (false≢true (sym e))
    rest_no false b e = e

pub all_none : (f : ℕ → Bool) (n w : ℕ) → ((j : ℕ) → f j ≡ false) → list_any f (range_with_len n w) ≡ false
all_none f n zero none = refl
all_none f n (suc w) none = ap₂ (λ a b. a || b) (none n) (all_none f (n + 1) w none)

-- a mask is not 0 exactly where some place is set
pub some_set : (m w : ℕ) → m < 2 ^ w → not (m == 0) ≡ list_any (is_set m) (range_with_len 0 w)
some_set m w l = go (list_any (is_set m) (range_with_len 0 w)) refl
  where
    go : (t : Bool) → list_any (is_set m) (range_with_len 0 w) ≡ t → not (m == 0) ≡ t
    go false none =
        let zero : m ≡ 0 = same_from_places w m 0 l (pow_pos w) (λ i b. none_at (is_set m) 0 w none i (omega arith) (omega (arith, b)) ∙ sym (is_set-zero i)) in
        ap (λ k. not (k == 0)) zero
    go true some = elim (cases_eq m 0) [
      | inl e ↦ absurd (false≢true (sym (ap (λ k. list_any (is_set k) (range_with_len 0 w)) e ∙ all_none (is_set 0) 0 w is_set-zero) ∙ some))
      | inr ne ↦ grind (arith, nat_tests, ne)
    ]

-- some do not pass a test where not all pass it
pub not_all : (f : ℕ → Bool) (js : List ℕ) → not (list_all f js) ≡ list_any (λ j. not (f j)) js
not_all f [] = refl
not_all f (j ∷ js) = go (f j) (not_all f js)
  where
    go : (t : Bool) → not (list_all f js) ≡ list_any (λ i. not (f i)) js → not (t && list_all f js) ≡ (not t || list_any (λ i. not (f i)) js)
    go true e = e
    go false e = refl

and_true : (t : Bool) → (t && true) ≡ t
and_true true = refl
and_true false = refl

-- below the width a mask is not 0 exactly where some place is set
pub some_below : (m w : ℕ) (f : ℕ → Bool) → ((j : ℕ) → j < w → is_set m j ≡ f j) → not (bit_and m (2 ^ w - 1) == 0) ≡ list_any f (range_with_len 0 w)
some_below m w f here =
    some_set (bit_and m (2 ^ w - 1)) w (lt_of_le_of_lt (and_le_r m (2 ^ w - 1)) (let p = pow_pos w in omega (arith, p)))
    ∙ any_below _ _ 0 w (λ j l b. let below : j < w = omega (arith, b) in is_set-and m (2 ^ w - 1) j ∙ ap (λ t. is_set m j && t) (is_set-ones w j below) ∙ and_true (is_set m j) ∙ here j below)
