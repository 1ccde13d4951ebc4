-- The vectors of number literals (IEEE 1364-2001 clause 2.5.1).
-- Bytes are written as numbers: 98 b, 100 d, 104 h, 111 o; digits begin at 48, 65 and 97.
use Rattle.std.specs.Prelude.{ℕ, ◌-◌, nat_le, Bool, true, not, ◌||◌, ◌==◌, List, if◌then◌else◌, slice_index, drop, filter, flat_map, reverse}
use Rattle.four_state.specs.declared.bit.Bit.{Bit}
use Rattle.four_state.specs.declared.bit.Bit.TheVariants.{Zero, X, Z}
use Rattle.four_state.specs.Vector.{Vector, fill, fit}
use Rattle.four_state.specs.Arithmetic.{low_bits}
use Rattle.verilog_lexer.specs.Number.{number}
use Rattle.verilog_lexer.specs.Based.{is_strange, is_underscore, letter_at, digits_at}

-- a plain decimal number has 32 bits and a sign
abbrev pub decimal_vector : (text : List ℕ) → Vector
decimal_vector text = record { bits = low_bits 32 (number 0 text); signed = true }

-- the bit of a digit x, z or ?
abbrev pub strange_bit : ℕ → Bit
strange_bit byte = if byte == 120 || byte == 88 then X else Z

-- the number of a digit
abbrev pub digit_value : ℕ → ℕ
digit_value byte = if nat_le 97 byte then byte - 87 else (if nat_le 65 byte then byte - 55 else byte - 48)

-- the bits of a digit of n bits, the lowest first
abbrev pub digit_bits : ℕ → ℕ → List Bit
digit_bits n byte = if is_strange byte then fill n (strange_bit byte) else low_bits n (digit_value byte)

-- the bit that fills up a number with too few digits, by its leftmost digit
abbrev pub filler : (digits : List ℕ) → Bit
filler digits = if is_strange (slice_index digits 0) then strange_bit (slice_index digits 0) else Zero

-- w bits by digits of n bits each
abbrev pub bits_of_digits : ℕ → (w : ℕ) → (digits : List ℕ) → List Bit
bits_of_digits n w digits = fit w (filler digits) (flat_map (digit_bits n) (reverse digits))

-- w bits by decimal digits, or by one x, z or ?
abbrev pub bits_of_decimal : (w : ℕ) → (digits : List ℕ) → List Bit
bits_of_decimal w digits = if is_strange (slice_index digits 0) then fill w (strange_bit (slice_index digits 0)) else low_bits w (number 0 digits)

-- a letter of a base, in either case
abbrev pub is_letter : ℕ → ℕ → Bool
is_letter small letter = letter == small || letter == small - 32

-- w bits by digits in the base that a letter names; it is 0 where the letter names no base
abbrev pub bits_in_base : (letter : ℕ) → (w : ℕ) → (digits : List ℕ) → List Bit
bits_in_base letter w digits =
    if is_letter 98 letter then bits_of_digits 1 w digits
    else if is_letter 111 letter then bits_of_digits 3 w digits
    else if is_letter 104 letter then bits_of_digits 4 w digits
    else if is_letter 100 letter then bits_of_decimal w digits
    else fill w Zero

-- the digits of a based number
abbrev pub digits_of : (text : List ℕ) → List ℕ
digits_of text = filter (λ byte. not (is_underscore byte)) (drop (digits_at text) text)

-- a based number of w bits; it is signed with the letter s
unfoldable pub based_vector : (w : ℕ) → (text : List ℕ) → Vector
based_vector w text = record { bits = bits_in_base (slice_index text (letter_at text)) w (digits_of text); signed = letter_at text == 2 }

-- the number of bits by the size before a based number, from 1 to 128
abbrev pub width_of : (size : List ℕ) → ℕ
width_of size = if number 0 size == 0 then 1 else (if nat_le 128 (number 0 size) then 128 else number 0 size)
