-- The numbers of a range, and lists in another order.
use Rattle.std.proofs.Common.{◌≡◌, ◌≢◌, ◌<◌, ◌+◌, ◌++◌, ◌∙◌, ℕ, zero, suc, inl, inr, List, [], ◌∷◌, length, get_or, set, ap, sym, subst, arith, add-zero, add-one}
use Rattle.std.specs.List.{All, Contains, range_with_len}
use Rattle.std.specs.List.Sorted.{IsPermutation}
use Rattle.std.proofs.lemmas.Bool.{cases_lt}
use Rattle.std.proofs.lemmas.List.{get_or-set_other, get_or-set_same}
use Rattle.std.proofs.lemmas.List.Elements.{All-from_get_or, All-get_or, Contains-from_at, at_from_Contains}
use Rattle.std.proofs.lemmas.List.FromFn.{get_or-range_with_len, length-range_with_len}
use Rattle.std.proofs.lemmas.List.Sorted.{All-permutation, Contains-permutation, length_permutation}

range_suc : (a n : ℕ) → range_with_len a (suc n) ≡ range_with_len a n ++ (a + n) ∷ []
range_suc a zero = ap (λ k. k ∷ []) (sym (add-zero a))
range_suc a (suc n) =
    let e : a + 1 + n ≡ a + suc n = omega arith in
    ap (λ ks. a ∷ ks) (range_suc (a + 1) n) ∙ ap (λ k. a ∷ (range_with_len (a + 1) n ++ k ∷ [])) e

-- the numbers from 0 on, with one more
pub range_more : (n : ℕ) → range_with_len 0 (n + 1) ≡ range_with_len 0 n ++ n ∷ []
range_more n =
    let e : 0 + n ≡ n = omega arith in
    ap (range_with_len 0) (add-one n) ∙ range_suc 0 n ∙ ap (λ k. range_with_len 0 n ++ k ∷ []) e

module _ (n : ℕ) (order : List ℕ) (same : IsPermutation (range_with_len 0 n) order) where
  pub order_length : length order ≡ n
  order_length = length_permutation (range_with_len 0 n) order same ∙ length-range_with_len 0 n

  -- each number of the order is below their count
  pub order_below : (k : ℕ) → k < length order → get_or order k 0 < n
  order_below k l =
      let all : All (λ (i : ℕ). i < n) (range_with_len 0 n) = All-from_get_or (λ (i : ℕ). i < n) (range_with_len 0 n) 0 (λ i l. let m : i < n = omega (arith, l, length-range_with_len 0 n) in let e = get_or-range_with_len 0 n i 0 m in omega (arith, m, e)) in
      All-get_or (λ (i : ℕ). i < n) order k 0 l (All-permutation (λ (i : ℕ). i < n) (range_with_len 0 n) order same all)

  -- each number below the count has a place in the order
  pub order_has : (i : ℕ) → i < n → (k : ℕ) × (k < length order) × (get_or order k 0 ≡ i)
  order_has i l =
      let there : Contains (range_with_len 0 n) i = Contains-from_at (range_with_len 0 n) i (i, omega (arith, l, length-range_with_len 0 n), λ d. let e = get_or-range_with_len 0 n i d l in omega (arith, e)) in
      let at = at_from_Contains order i (Contains-permutation (range_with_len 0 n) order i same there) in
      (at.0, at.1, at.2 0)

-- the number at a place of the order has a place that leads back to it
abbrev pub IsPlaced : List ℕ → List ℕ → ℕ → Type 0
IsPlaced order places j = (get_or places (get_or order j 0) 0 < length order) × (get_or order (get_or places (get_or order j 0) 0) 0 ≡ get_or order j 0)

-- what was placed stays placed, and one number more is
pub placed_more : (order places : List ℕ) (k : ℕ) → k < length order → get_or order k 0 < length places → ((j : ℕ) → j < k → IsPlaced order places j) → (j : ℕ) → j < k + 1 → IsPlaced order (set places (get_or order k 0) k) j
placed_more order places k l m h j n = elim (cases_lt i t) [ inl a ↦ other (λ e. absurd (omega (arith, a, e))) | inr a ↦ elim (cases_lt t i) [ inl b ↦ other (λ e. absurd (omega (arith, b, e))) | inr b ↦ same (omega (arith, a, b)) ] ]
  where
    i : ℕ
    i = get_or order j 0

    t : ℕ
    t = get_or order k 0

    leads : (q : ℕ) → get_or (set places t k) i 0 ≡ q → (q < length order) × (get_or order q 0 ≡ i) → IsPlaced order (set places t k) j
    leads q e p = subst (λ r. (r < length order) × (get_or order r 0 ≡ i)) (sym e) p

    same : i ≡ t → IsPlaced order (set places t k) j
    same e = leads k (subst (λ r. get_or (set places t k) r 0 ≡ k) (sym e) (get_or-set_same places t k 0 m)) (l, sym e)

    earlier : i ≢ t → j < k
    earlier ne = elim (cases_lt j k) [ inl a ↦ a | inr a ↦ let e : j ≡ k = omega arith in absurd (ne (ap (λ r. get_or order r 0) e)) ]

    other : i ≢ t → IsPlaced order (set places t k) j
    other ne = leads (get_or places i 0) (get_or-set_other places t i k 0 ne) (h j (earlier ne))
