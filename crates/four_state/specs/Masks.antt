-- Vectors as two masks: a 1 bit is in the first, x in the second, z in both.
use Rattle.std.specs.Prelude.{ℕ, zero, suc, ◌+◌, ◌-◌, ◌*◌, ◌/◌, ◌%◌, ◌^◌, ◌<◌, ◌≤◌, ◌==◌, Bool, true, false, not, if◌then◌else◌, bit_or, List, [], ◌∷◌, ℤ, pos, negsuc}
use Rattle.four_state.specs.Vector.{Bit, Zero, One, X, Z, is_known}

-- the bit that is in these masks
abbrev pub bit_in_masks : Bool → Bool → Bit
bit_in_masks false false = Zero
bit_in_masks true false = One
bit_in_masks false true = X
bit_in_masks true true = Z

-- the first mask has 1 and z
abbrev pub is_one_or_z : Bit → Bool
is_one_or_z One = true
is_one_or_z Z = true
is_one_or_z _ = false

-- the second mask has x and z
abbrev pub is_strange : Bit → Bool
is_strange b = not (is_known b)

-- the w bits of two masks
unfoldable pub bits_of_masks : ℕ → ℕ → ℕ → List Bit
bits_of_masks zero ones strange = []
bits_of_masks (suc w) ones strange = bit_in_masks (ones % 2 == 1) (strange % 2 == 1) ∷ bits_of_masks w (ones / 2) (strange / 2)

-- the w bits that are 1 in the first mask, 0 in the second, and else x
abbrev pub bits_of_known : ℕ → ℕ → ℕ → List Bit
bits_of_known w ones zeros = bits_of_masks w ones (2 ^ w - 1 - bit_or ones zeros)

-- the mask of the places whose bits pass a test
unfoldable pub mask_of : (Bit → Bool) → List Bit → ℕ
mask_of p [] = 0
mask_of p (b ∷ bs) = (if p b then 1 else 0) + 2 * mask_of p bs

-- the width is from 1 to 128, and both masks are inside it
pub record FitsMasks (width ones strange : ℕ) : Type 0 where
  pub at_least : 1 ≤ width
  pub at_most : width ≤ 128
  pub ones_inside : ones < 2 ^ width
  pub strange_inside : strange < 2 ^ width

-- whether the number has this place
unfoldable pub is_set : ℕ → ℕ → Bool
is_set n place = n / 2 ^ place % 2 == 1

-- the bits of two masks at the places of a third one, over other bits
unfoldable pub bits_over : List Bit → ℕ → ℕ → ℕ → List Bit
bits_over [] inside ones strange = []
bits_over (b ∷ bs) inside ones strange =
    (if inside % 2 == 1 then bit_in_masks (ones % 2 == 1) (strange % 2 == 1) else b) ∷ bits_over bs (inside / 2) (ones / 2) (strange / 2)

-- whether the number has this place; none has one below the first
abbrev pub is_set_at : ℕ → ℤ → Bool
is_set_at n (pos place) = is_set n place
is_set_at n (negsuc below) = false
