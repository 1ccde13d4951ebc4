-- What a vector's masks say of its bits.
use Rattle.std.proofs.Common.{◌≡◌, ℕ, ◌-◌, ◌^◌, ◌<◌, Bool, true, false, not, ◌&&◌, ◌||◌, length, get_or, slice_get, Some, bit_and, bit_or, refl, ap, arith, sym, ◌∙◌, lt_of_lt_of_le, lt_of_le_of_lt}
use Rattle.std.proofs.Math.Pow.{pow_mono, ones_lt}
use Rattle.std.proofs.lemmas.Nat.{and_le_l, or_lt}
use Rattle.std.proofs.lemmas.Option.{slice_get-get_or}
use Rattle.four_state.specs.Vector.{X, Vector, is_one, is_zero}
use Rattle.four_state.specs.Masks.{bits_of_masks, mask_of, bit_in_masks, is_set, is_one_or_z, is_strange, FitsMasks}
use Rattle.four_state.specs.Stored.{width_of_bits, ones_of_bits, strange_of_bits}
use Rattle.four_state.proofs.Places.{is_set-and, is_set-or, is_set-not, is_set-ones}
use Rattle.four_state.proofs.Lifted.{get_or-bits_of_masks, mask_is}

one_in : (p q : Bool) → (p && not q) ≡ is_one (bit_in_masks p q)
one_in false false = refl
one_in false true = refl
one_in true false = refl
one_in true true = refl

zero_in : (p q : Bool) → (true && not (p || q)) ≡ is_zero (bit_in_masks p q)
zero_in false false = refl
zero_in false true = refl
zero_in true false = refl
zero_in true true = refl

module _ (w a b : ℕ) (s : Bool) (v : Vector) (same : record { bits = bits_of_masks w a b; signed = s } ≡ v) (fits : FitsMasks w a b) where
  bits_same : bits_of_masks w a b ≡ v.bits
  bits_same = ap (λ (x : Vector). x.bits) same

  pub kept_width : w ≡ length v.bits
  kept_width = sym (width_of_bits w a b) ∙ ap length bits_same

  kept_at : (i : ℕ) → i < w → bit_in_masks (is_set a i) (is_set b i) ≡ get_or v.bits i X
  kept_at i h = sym (get_or-bits_of_masks w a b i X h) ∙ ap (λ bs. get_or bs i X) bits_same

  pub kept_ones : a ≡ mask_of is_one_or_z v.bits
  kept_ones = sym (ones_of_bits w a b fits.ones_inside) ∙ ap (mask_of is_one_or_z) bits_same

  pub kept_strange : b ≡ mask_of is_strange v.bits
  kept_strange = sym (strange_of_bits w a b fits.strange_inside) ∙ ap (mask_of is_strange) bits_same

  below_all : (n : ℕ) → n < 2 ^ w → n < 2 ^ 128
  below_all n h = lt_of_lt_of_le h (pow_mono fits.at_most)

  pub kept_known_ones : bit_and a (2 ^ 128 - 1 - b) ≡ mask_of is_one v.bits
  kept_known_ones =
      mask_is is_one (bit_and a (2 ^ 128 - 1 - b)) v.bits
      (rw (← kept_width) (lt_of_le_of_lt (and_le_l a (2 ^ 128 - 1 - b)) fits.ones_inside))
      (λ i l. let h : i < w = omega (arith, kept_width) in
      is_set-and a (2 ^ 128 - 1 - b) i ∙ ap (λ q. is_set a i && q) (is_set-not 128 b i (below_all b fits.strange_inside) (omega (arith, fits.at_most))) ∙ one_in (is_set a i) (is_set b i) ∙ ap is_one (kept_at i h))

  pub kept_known_zeros : bit_and (2 ^ w - 1) (2 ^ 128 - 1 - bit_or a b) ≡ mask_of is_zero v.bits
  kept_known_zeros =
      mask_is is_zero (bit_and (2 ^ w - 1) (2 ^ 128 - 1 - bit_or a b)) v.bits
      (rw (← kept_width) (lt_of_le_of_lt (and_le_l (2 ^ w - 1) (2 ^ 128 - 1 - bit_or a b)) (ones_lt w)))
      (λ i l. let h : i < w = omega (arith, kept_width) in
      is_set-and (2 ^ w - 1) (2 ^ 128 - 1 - bit_or a b) i ∙ ap (λ p. p && is_set (2 ^ 128 - 1 - bit_or a b) i) (is_set-ones w i h) ∙ ap (λ q. true && q) (is_set-not 128 (bit_or a b) i (or_lt 128 a b (below_all a fits.ones_inside) (below_all b fits.strange_inside)) (omega (arith, fits.at_most)) ∙ ap not (is_set-or a b i)) ∙ zero_in (is_set a i) (is_set b i) ∙ ap is_zero (kept_at i h))

  pub kept_bit : (i : ℕ) → i < length v.bits → slice_get v.bits i ≡ Some (bit_in_masks (is_set a i) (is_set b i))
  kept_bit i l = slice_get-get_or v.bits i X l ∙ ap Some (sym (kept_at i (omega (arith, kept_width))))
