-- The digits of a partly known vector.
-- Digits are written as bytes: 48 and 49 are 0 and 1, 120 and 122 are x and z, and 63 is a question mark.
use Rattle.std.specs.Prelude.{ℕ, List, map, reverse, Option, Some, None}
use Rattle.four_state.specs.declared.bit.Bit.{Bit}
use Rattle.four_state.specs.declared.bit.Bit.TheVariants.{Zero, One, X, Z}

-- the digit of a bit; a question mark where it is not sure
abbrev pub digit_of : Option Bit → ℕ
digit_of None = 63
digit_of (Some Zero) = 48
digit_of (Some One) = 49
digit_of (Some X) = 120
digit_of (Some Z) = 122

-- the digits of a vector, the highest first
abbrev pub digits_of : List (Option Bit) → List ℕ
digits_of bits = map digit_of (reverse bits)
