-- Masks that grow at their low end.
use Rattle.std.proofs.Common.{◌≡◌, ℕ, suc, ◌+◌, ◌*◌, ◌/◌, ◌%◌, ◌^◌, ◌<◌, ◌≤◌, Bool, true, false, eqb, List, [], ◌∷◌, length, refl, ◌∙◌, arith, pow-suc}
use Rattle.std.proofs.Math.Pow.{pow_mono}
use Rattle.std.proofs.Math.Nat.{mul-add-mod_self_right}
use Rattle.std.proofs.lemmas.Nat.{div-mul-add}
use Rattle.four_state.specs.declared.Bit.{Bit}
use Rattle.four_state.specs.declared.Bit.TheVariants.{Zero, One, X, Z}
use Rattle.four_state.specs.Masks.{bits_of_masks, bit_in_masks, is_one_or_z, is_strange}
use Rattle.vcd_reader.specs.Masks.{AreMasksOf}

-- a bit of a mask as a number
abbrev pub digit : Bool → ℕ
digit true = 1
digit false = 0

rest_of_mask : (mask : ℕ) (p : Bool) → (mask * 2 + digit p) / 2 ≡ mask
rest_of_mask mask true = div-mul-add mask 2 1 (omega arith)
rest_of_mask mask false = div-mul-add mask 2 0 (omega arith)

end_of_mask : (mask : ℕ) (p : Bool) → eqb ((mask * 2 + digit p) % 2) 1 ≡ p
end_of_mask mask true = rw (mul-add-mod_self_right mask 2 1) refl
end_of_mask mask false = rw (mul-add-mod_self_right mask 2 0) refl

bit_of_masks : (bit : Bit) → bit_in_masks (is_one_or_z bit) (is_strange bit) ≡ bit
bit_of_masks Zero = refl
bit_of_masks One = refl
bit_of_masks X = refl
bit_of_masks Z = refl

mask_inside : (mask count : ℕ) (p : Bool) → mask < 2 ^ count → mask * 2 + digit p < 2 ^ suc count
mask_inside mask count true within = omega (arith, pow-suc 2 count)
mask_inside mask count false within = omega (arith, pow-suc 2 count)

-- one bit more at the low end
bits_more : (count ones strange : ℕ) (p q : Bool) → bits_of_masks (suc count) (ones * 2 + digit p) (strange * 2 + digit q) ≡ bit_in_masks p q ∷ bits_of_masks count ones strange
unfolding bits_of_masks
bits_more count ones strange p q = rw (end_of_mask ones p, end_of_mask strange q, rest_of_mask ones p, rest_of_mask strange q) refl

pub masks_more : (bits : List Bit) (bit : Bit) (ones strange : ℕ) → AreMasksOf bits (record { ones = ones; strange = strange }) → AreMasksOf (bit ∷ bits) (record { ones = ones * 2 + digit (is_one_or_z bit); strange = strange * 2 + digit (is_strange bit) })
masks_more bits bit ones strange masks = record {
  bits_are = bits_more (length bits) ones strange (is_one_or_z bit) (is_strange bit) ∙ rw (bit_of_masks bit, masks.bits_are) refl;
  ones_inside = mask_inside ones (length bits) (is_one_or_z bit) masks.ones_inside;
  strange_inside = mask_inside strange (length bits) (is_strange bit) masks.strange_inside;
}

-- no bits
pub masks_none : AreMasksOf [] (record { ones = 0; strange = 0 })
unfolding bits_of_masks
masks_none = record { bits_are = refl; ones_inside = omega arith; strange_inside = omega arith }

-- the masks of one bit
pub one_place : (p : Bool) → digit p < 2 ^ 1
one_place true = omega arith
one_place false = omega arith

pub one_bit : (bit : Bit) → bits_of_masks 1 (digit (is_one_or_z bit)) (digit (is_strange bit)) ≡ bit ∷ []
unfolding bits_of_masks
one_bit Zero = refl
one_bit One = refl
one_bit X = refl
one_bit Z = refl

-- a mask of fewer than 128 places
pub below_127 : (mask k : ℕ) → mask < 2 ^ k → k ≤ 127 → mask < 2 ^ 127
below_127 mask k within few = let more : 2 ^ k ≤ 2 ^ 127 = pow_mono few in omega (arith, more)

-- a mask with one place more
pub inside_more : (mask more count next : ℕ) → mask < 2 ^ count → more < 2 * mask + 2 → count + 1 ≤ next → more < 2 ^ next
inside_more mask more count next within twice further =
    let double : 2 ^ suc count ≡ 2 * 2 ^ count = omega (arith, pow-suc 2 count) in
    let larger : 2 ^ suc count ≤ 2 ^ next = pow_mono (omega arith) in
    omega (arith, double, larger)

-- a mask in more places
pub inside_wider : (mask count next : ℕ) → mask < 2 ^ count → count ≤ next → mask < 2 ^ next
inside_wider mask count next within further = let larger : 2 ^ count ≤ 2 ^ next = pow_mono further in omega (arith, larger)
