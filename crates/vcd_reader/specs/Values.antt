-- The digits of a value (IEEE 1364-2001 clause 18.2.2).
-- Bytes are written as numbers: 48 0, 49 1, 88 X, 90 Z, 120 x, 122 z.
use Rattle.std.specs.Prelude.{ℕ, ◌-◌, ◌==◌, Bool, ◌||◌, if◌then◌else◌, List, ◌++◌, map, reverse, length}
use Rattle.four_state.specs.declared.Bit.{Bit}
use Rattle.four_state.specs.declared.Bit.TheVariants.{Zero, One, X, Z}
use Rattle.four_state.specs.Vector.{fill, top}

-- 0, 1, x, X, z or Z
abbrev pub is_digit : ℕ → Bool
is_digit byte = byte == 48 || byte == 49 || byte == 120 || byte == 88 || byte == 122 || byte == 90

-- the bit of a digit
abbrev pub digit_bit : ℕ → Bit
digit_bit byte = if byte == 48 then Zero else if byte == 49 then One else if byte == 120 || byte == 88 then X else Z

-- what fills a value up on the left: 0 after 0 and 1, x after x, z after z
abbrev pub extension : Bit → Bit
extension X = X
extension Z = Z
extension _ = Zero

-- the bits of digits, of which the highest comes first
abbrev pub digit_bits : List ℕ → List Bit
digit_bits digits = reverse (map digit_bit digits)

-- the value of this size that digits write
abbrev pub value_bits : ℕ → List ℕ → List Bit
value_bits size digits = digit_bits digits ++ fill (size - length digits) (extension (top (digit_bits digits)))
