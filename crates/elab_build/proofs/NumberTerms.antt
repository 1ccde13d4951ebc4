-- Numbers as terms.
use Rattle.std.proofs.Common.{◌≡◌, ◌<◌, ◌≤◌, ◌^◌, ◌==◌, ◌%◌, ◌/◌, ◌∷◌, ℕ, zero, suc, Bool, true, false, refl, ap, arith}
use Rattle.std.proofs.lemmas.Nat.{pow_below}
use Rattle.four_state.specs.Arithmetic.{low_bits}
use Rattle.four_state.specs.Masks.{bits_of_masks, bit_in_masks}
use Rattle.four_state.specs.Vector.{bit_of}

known_bit : (b : Bool) → bit_in_masks b false ≡ bit_of b
known_bit true = refl
known_bit false = refl

-- the bits that one mask represents are those of a number
pub known_bits : (w n : ℕ) → bits_of_masks w n 0 ≡ low_bits w n
unfolding bits_of_masks
known_bits zero n = refl
known_bits (suc w) n = rw (known_bit (n % 2 == 1)) (ap (λ bs. bit_of (n % 2 == 1) ∷ bs) (known_bits w (n / 2)))

-- a number of seven bits fits in more bits
pub small_fits : (w n : ℕ) → 9 ≤ w → n < 128 → n < 2 ^ w
small_fits w n wide small =
    let more = pow_below 7 w (omega arith) in
    omega (arith, more)
