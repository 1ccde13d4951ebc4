-- The bits of a number without x and z.
use Rattle.std.proofs.Common.{◌≡◌, ℕ, zero, suc, Bool, true, false, ◌==◌, ◌%◌, ◌/◌, ◌∷◌, refl, ap₂}
use Rattle.four_state.specs.Arithmetic.{low_bits}
use Rattle.four_state.specs.Masks.{bit_in_masks, bits_of_masks}
use Rattle.four_state.specs.Vector.{bit_of}

one_bit : (b : Bool) → bit_in_masks b false ≡ bit_of b
one_bit true = refl
one_bit false = refl

pub number_bits : (w n : ℕ) → bits_of_masks w n 0 ≡ low_bits w n
unfolding bits_of_masks
number_bits zero n = refl
number_bits (suc w) n = ap₂ (λ b bs. b ∷ bs) (one_bit (n % 2 == 1)) (number_bits w (n / 2))
