-- Bits as two masks.
use Rattle.std.specs.Prelude.{◌≡◌, ◌<◌, ◌^◌, List, length}
use Rattle.four_state.specs.declared.Bit.{Bit}
use Rattle.four_state.specs.Masks.{bits_of_masks}
use Rattle.vcd_reader.specs.declared.masks.Masks.{Masks}

-- the masks are those of these bits, and of no more
pub record AreMasksOf (bits : List Bit) (masks : Masks) : Type 0 where
  pub bits_are : bits_of_masks (length bits) masks.ones masks.strange ≡ bits
  pub ones_inside : masks.ones < 2 ^ length bits
  pub strange_inside : masks.strange < 2 ^ length bits
