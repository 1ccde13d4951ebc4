-- Numbers as digits (IEEE 1364-2001 clause 2.5).
-- Bytes are written as numbers: 48 0, 95 underscore.
use Rattle.std.specs.Prelude.{ℕ, ◌+◌, ◌-◌, ◌*◌, ◌==◌, nat_le, List, [], ◌∷◌, Option, None, Some, if◌then◌else◌}

-- the number with one digit more at its end, where an underscore adds nothing
abbrev pub with_digit : ℕ → ℕ → ℕ
with_digit value byte = if byte == 95 then value else value * 10 + (byte - 48)

-- the number that decimal digits write after those that are read, the highest first
abbrev pub number : (read : ℕ) → List ℕ → ℕ
number read [] = read
number read (digit ∷ others) = number (with_digit read digit) others

-- that number, where it is at most this great
abbrev pub number_within : (greatest : ℕ) → List ℕ → Option ℕ
number_within greatest digits = if nat_le (number 0 digits) greatest then Some (number 0 digits) else None
