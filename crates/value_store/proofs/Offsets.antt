-- An index that is far from 0 reaches no bit of a signal, so it can be cut.
use Rattle.std.proofs.Common.{◌≡◌, ◌⊎◌, ℕ, zero, suc, ◌+◌, ◌<◌, ◌≤◌, ◌^◌, min, Bool, true, false, if◌then◌else◌, List, [], ◌∷◌, length, ℤ, pos, negsuc, ◌+ℤ◌, ◌-ℤ◌, ◌≤ℤ◌, neg_ℤ, Option, Some, None, refl, sym, ap, ap₂, ◌∙◌, inl, inr, arith, nat_lt, nat_le}
use Rattle.std.proofs.lemmas.Int.{ints}
use Rattle.std.proofs.lemmas.Bool.{cases_lt, ltb-true}
use Rattle.four_state.specs.declared.bit.Bit.{Bit}
use Rattle.four_state.specs.Parts.{within}
use Rattle.design_model.specs.declared.design.Range.{Range}
use Rattle.design_model.specs.Value.{offset, offset_option}
use Rattle.value_store.specs.Near.{far, near_option}
use Rattle.value_store.specs.Parts.{bit_or_old, bits_over, placed_bits}

not_within : (n k : ℕ) → n ≤ k → within n (pos k) ≡ None
not_within n k l = go (nat_lt k n) refl
  where
    go : (t : Bool) → nat_lt k n ≡ t → (if t then Some k else None) ≡ None
    go false e = refl
    go true e = let past = ltb-true k n e in absurd (omega (arith, past, l))

over_above : (qs ps : List (Option Bit)) (k : ℕ) → length ps ≤ k → bits_over qs ps (pos k) ≡ qs
over_above [] ps k l = refl
over_above (q ∷ qs) ps k l =
    let next : pos k +ℤ pos 1 ≡ pos (k + 1) = omega (arith, ints) in
    ap₂ (λ a b. a ∷ b) (ap (bit_or_old q ps) (not_within (length ps) k l)) (ap (bits_over qs ps) next ∙ over_above qs ps (k + 1) (omega (arith, l)))

over_below : (qs ps : List (Option Bit)) (k : ℕ) → length qs ≤ suc k → bits_over qs ps (negsuc k) ≡ qs
over_below [] ps k l = refl
over_below (q ∷ []) ps zero l = refl
over_below (q ∷ r ∷ qs) ps zero l = absurd (omega (arith, l))
over_below (q ∷ qs) ps (suc k) l =
    let next : negsuc (suc k) +ℤ pos 1 ≡ negsuc k = omega (arith, ints) in
    ap (λ b. q ∷ b) (ap (bits_over qs ps) next ∙ over_below qs ps k (omega (arith, l)))

-- all bits of a part of 128 fall before the first bit of a signal of 128, or past the last one
IsFar : ℤ → Type 0
IsFar z = (z ≤ℤ negsuc 127) ⊎ (pos 128 ≤ℤ z)

over_far : (qs ps : List (Option Bit)) (z : ℤ) → length qs ≤ 128 → length ps ≤ 128 → IsFar z → bits_over qs ps z ≡ qs
unfolding IsFar
over_far qs ps (pos k) a b (inl h) = absurd (omega (arith, ints, h))
over_far qs ps (pos k) a b (inr h) = over_above qs ps k (omega (arith, ints, h, b))
over_far qs ps (negsuc k) a b (inl h) = over_below qs ps k (omega (arith, ints, h, a))
over_far qs ps (negsuc k) a b (inr h) = absurd (omega (arith, ints, h))

above_far : (r : Range) (n : ℕ) → r.low < 2 ^ 32 → far ≤ n → IsFar (neg_ℤ (offset r (pos n)))
unfolding IsFar
above_far r n small l = go (nat_le r.low r.high)
  where
    go : (t : Bool) → ((neg_ℤ (if t then pos n -ℤ pos r.low else pos r.low -ℤ pos n)) ≤ℤ negsuc 127) ⊎ (pos 128 ≤ℤ (neg_ℤ (if t then pos n -ℤ pos r.low else pos r.low -ℤ pos n)))
    go true = inl (omega (arith, ints, small, l))
    go false = inr (omega (arith, ints, small, l))

below_far : (r : Range) (n : ℕ) → r.low < 2 ^ 32 → far ≤ n → IsFar (neg_ℤ (offset r (negsuc n)))
unfolding IsFar
below_far r n small l = go (nat_le r.low r.high)
  where
    go : (t : Bool) → ((neg_ℤ (if t then negsuc n -ℤ pos r.low else pos r.low -ℤ negsuc n)) ≤ℤ negsuc 127) ⊎ (pos 128 ≤ℤ (neg_ℤ (if t then negsuc n -ℤ pos r.low else pos r.low -ℤ negsuc n)))
    go true = inr (omega (arith, ints, small, l))
    go false = inl (omega (arith, ints, small, l))

module _ (r : Range) (qs ps : List (Option Bit)) (small : r.low < 2 ^ 32) (a : length qs ≤ 128) (b : length ps ≤ 128) where
  placed_pos : (n : ℕ) → (n < far) ⊎ (far ≤ n) → bits_over qs ps (neg_ℤ (offset r (pos (min n far)))) ≡ bits_over qs ps (neg_ℤ (offset r (pos n)))
  placed_pos n (inl l) = let same : min n far ≡ n = omega (arith, l) in ap (λ k. bits_over qs ps (neg_ℤ (offset r (pos k)))) same
  placed_pos n (inr l) =
      over_far qs ps (neg_ℤ (offset r (pos (min n far)))) a b (above_far r (min n far) small (omega (arith, l))) ∙ sym (over_far qs ps (neg_ℤ (offset r (pos n))) a b (above_far r n small l))

  placed_negative : (n : ℕ) → (n < far) ⊎ (far ≤ n) → bits_over qs ps (neg_ℤ (offset r (negsuc (min n far)))) ≡ bits_over qs ps (neg_ℤ (offset r (negsuc n)))
  placed_negative n (inl l) = let same : min n far ≡ n = omega (arith, l) in ap (λ k. bits_over qs ps (neg_ℤ (offset r (negsuc k)))) same
  placed_negative n (inr l) =
      over_far qs ps (neg_ℤ (offset r (negsuc (min n far)))) a b (below_far r (min n far) small (omega (arith, l))) ∙ sym (over_far qs ps (neg_ℤ (offset r (negsuc n))) a b (below_far r n small l))

  -- a part by a cut index is a part by the index
  pub placed_near : (o : Option ℤ) → placed_bits qs ps (offset_option r (near_option o)) ≡ placed_bits qs ps (offset_option r o)
  placed_near None = refl
  placed_near (Some (pos n)) = placed_pos n (cases_lt n far)
  placed_near (Some (negsuc n)) = placed_negative n (cases_lt n far)
