-- Bits as they are written in examples: the digits 0, 1, x and z, the highest first.
use Rattle.std.specs.Prelude.{ℕ, ◌==◌, if◌then◌else◌, List, map, reverse}
use Rattle.four_state.specs.Vector.{Bit, Zero, One, X, Z}

abbrev pub digit_bit : ℕ → Bit
digit_bit n = if n == 48 then Zero else (if n == 49 then One else (if n == 122 then Z else X))

abbrev pub digits : List ℕ → List Bit
digits text = reverse (map digit_bit text)
