-- Based numbers (IEEE 1364-2001 clause 2.5.1).
-- Bytes are written as numbers: 63 question mark, 66 B, 68 D, 72 H, 79 O, 83 S, 88 X, 90 Z, 95 underscore, 98 b, 100 d, 104 h, 111 o, 115 s, 120 x, 122 z;
-- 48 to 57 the digits, 65 to 70 and 97 to 102 the digits above 9.
use Rattle.std.specs.Prelude.{ℕ, ◌+◌, ◌^◌, ◌-◌, nat_le, is_some, Bool, true, false, not, ◌&&◌, ◌||◌, ◌==◌, List, Option, None, Some, if◌then◌else◌, slice_index, drop}
use Rattle.std.specs.List.{list_any}
use Rattle.std.specs.Char.{is_ascii_digit}
use Rattle.verilog_lexer.specs.Run.{is_white, run}
use Rattle.verilog_lexer.specs.Number.{number_within}
use Rattle.verilog_lexer.specs.declared.based.Base.{Base}
use Rattle.verilog_lexer.specs.declared.based.Base.TheVariants.{Binary, Octal, Decimal, Hexadecimal}

-- the base that a letter names, in either case
abbrev pub base_of : ℕ → Option Base
base_of letter =
    if letter == 98 || letter == 66 then Some Binary
    else if letter == 111 || letter == 79 then Some Octal
    else if letter == 100 || letter == 68 then Some Decimal
    else if letter == 104 || letter == 72 then Some Hexadecimal
    else None

-- x, z or ?, in either case
abbrev pub is_strange : ℕ → Bool
is_strange byte = byte == 120 || byte == 88 || byte == 122 || byte == 90 || byte == 63

abbrev pub is_underscore : ℕ → Bool
is_underscore byte = byte == 95

-- the byte is a known digit of the base
abbrev pub is_digit : Base → ℕ → Bool
is_digit Binary byte = byte == 48 || byte == 49
is_digit Octal byte = nat_le 48 byte && nat_le byte 55
is_digit Decimal byte = is_ascii_digit byte
is_digit Hexadecimal byte = is_ascii_digit byte || (nat_le 97 byte && nat_le byte 102) || (nat_le 65 byte && nat_le byte 70)

-- a digit of the base, known or not, or an underscore
abbrev pub is_part : Base → ℕ → Bool
is_part base byte = is_digit base byte || is_strange byte || is_underscore byte

-- a decimal digit or an underscore
abbrev pub is_decimal_part : ℕ → Bool
is_decimal_part byte = is_ascii_digit byte || is_underscore byte

-- how many bytes at the front are decimal digits, or one x, z or ? alone, with underscores
abbrev pub decimal_digits_length : List ℕ → ℕ
decimal_digits_length text =
    if is_strange (slice_index text (run is_underscore text))
    then run is_underscore text + 1 + run is_underscore (drop (run is_underscore text + 1) text)
    else run is_decimal_part text

-- how many bytes at the front are digits of the base with underscores
abbrev pub digits_length : Base → List ℕ → ℕ
digits_length Binary text = run (is_part Binary) text
digits_length Octal text = run (is_part Octal) text
digits_length Decimal text = decimal_digits_length text
digits_length Hexadecimal text = run (is_part Hexadecimal) text

-- where the letter of the base is, after the quote and the letter of the sign if there is one
abbrev pub letter_at : List ℕ → ℕ
letter_at text = if slice_index text 1 == 115 || slice_index text 1 == 83 then 2 else 1

-- where the digits begin, after the letter of the base and white space
unfoldable pub digits_at : List ℕ → ℕ
digits_at text = letter_at text + 1 + run is_white (drop (letter_at text + 1) text)

-- how many bytes the based number at the front has
unfoldable pub based_length : Base → List ℕ → ℕ
based_length base text = digits_at text + digits_length base (drop (digits_at text) text)

-- the digits of a based number fit in a literal of 128 bits, or of 32 bits where it has no size
abbrev pub digits_fit : (sized : Bool) → Base → List ℕ → Bool
digits_fit sized Decimal digits = list_any is_strange digits || is_some (number_within (if sized then 2 ^ 128 - 1 else 2 ^ 32 - 1) digits)
digits_fit sized Binary digits = true
digits_fit sized Octal digits = true
digits_fit sized Hexadecimal digits = true

-- there is a digit, and the digits fit
abbrev pub are_sound_digits : (sized : Bool) → Base → List ℕ → Bool
are_sound_digits sized base digits = list_any (λ byte. not (is_underscore byte)) digits && digits_fit sized base digits

-- the based number is a literal, with a size before it or without
unfoldable pub is_sound_based : (sized : Bool) → List ℕ → Bool
is_sound_based sized text = is_sound_in sized (base_of (slice_index text (letter_at text))) (drop (digits_at text) text) where
  is_sound_in : (sized : Bool) → Option Base → List ℕ → Bool
  is_sound_in sized None digits = false
  is_sound_in sized (Some base) digits = are_sound_digits sized base digits
