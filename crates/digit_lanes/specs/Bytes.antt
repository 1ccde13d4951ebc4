-- Bytes of a value change dump (IEEE 1364-2001 clause 18.2).
-- Bytes are written as numbers: 9 to 13 are white space, 32 space, 48 0, 49 1, 88 X, 90 Z, 120 x, 122 z.
use Rattle.std.specs.Prelude.{ℕ, ◌==◌, nat_le, Bool, not, ◌||◌, ◌&&◌}

-- space, or one of tab, line feed, vertical tab, form feed and carriage return
abbrev pub is_white_space : ℕ → Bool
is_white_space byte = byte == 32 || (nat_le 9 byte && nat_le byte 13)

-- a byte of a word
abbrev pub is_black : ℕ → Bool
is_black byte = not (is_white_space byte)

-- 0, 1, x, X, z or Z
abbrev pub is_digit : ℕ → Bool
is_digit byte = byte == 48 || byte == 49 || byte == 120 || byte == 88 || byte == 122 || byte == 90

abbrev pub is_no_digit : ℕ → Bool
is_no_digit byte = not (is_digit byte)

-- the bit of a digit is 1 or z: it is not 0, x or X
abbrev pub writes_one_or_z : ℕ → Bool
writes_one_or_z digit = not (digit == 48 || digit == 120 || digit == 88)

-- the bit of a digit is x or z: it is not 0 or 1
abbrev pub writes_strange : ℕ → Bool
writes_strange digit = not (digit == 48 || digit == 49)
