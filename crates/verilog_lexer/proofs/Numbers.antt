-- One digit more of a number that is read from left to right.
use Rattle.std.proofs.Common.{◌≡◌, ◌<◌, ◌≤◌, ◌+◌, ℕ, List, [], ◌∷◌, length, get_or, drop, drop-cons, add-one, refl, arith}
use Rattle.verilog_lexer.specs.Number.{number, with_digit}

pub number-drop : (read : ℕ) (digits : List ℕ) (i : ℕ) → i < length digits → number read (drop i digits) ≡ number (with_digit read (get_or digits i 0)) (drop (i + 1) digits)
number-drop read digits i within = rw (drop-cons digits i 0 within, add-one i) refl

pub with_digit_more : (value byte : ℕ) → value ≤ with_digit value byte
with_digit_more value byte = grind arith

-- more digits make no smaller number
pub number_more : (read : ℕ) (digits : List ℕ) → read ≤ number read digits
number_more read [] = omega arith
number_more read (digit ∷ digits) = omega (arith, number_more (with_digit read digit) digits, with_digit_more read digit)

pub ruleset numbers = (number-drop, number_more)
