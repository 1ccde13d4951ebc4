-- The vectors of number literals have from 1 to 128 bits, whatever is in the tokens.
use Rattle.std.proofs.Common.{◌≡◌, ℕ, zero, suc, ◌<◌, ◌≤◌, ◌/◌, ◌==◌, Bool, true, false, cond, nat_le, List, [], ◌∷◌, length, refl, ap, arith}
use Rattle.std.proofs.lemmas.List.{length-replicate}
use Rattle.std.proofs.lemmas.Bool.{leb-false, eqb-false}
use Rattle.std.specs.Prelude.{reverse, flat_map, slice_index}
use Rattle.four_state.specs.declared.bit.Bit.{Bit}
use Rattle.four_state.specs.declared.bit.Bit.TheVariants.{Zero}
use Rattle.four_state.specs.Vector.{HasWidth, fill, fit}
use Rattle.four_state.specs.Arithmetic.{low_bits}
use Rattle.verilog_lexer.specs.Number.{number}
use Rattle.verilog_lexer.specs.Based.{is_strange, letter_at}
use Rattle.verilog_grammar.specs.Literal.{decimal_vector, based_vector, width_of, bits_in_base, bits_of_digits, bits_of_decimal, digit_bits, digits_of, filler, strange_bit, is_letter}

length-low_bits : (w n : ℕ) → length (low_bits w n) ≡ w
length-low_bits zero n = refl
length-low_bits (suc w) n = ap suc (length-low_bits w (n / 2))

length-fit : (w : ℕ) (b : Bit) (bs : List Bit) → length (fit w b bs) ≡ w
length-fit zero b bs = refl
length-fit (suc w) b [] = ap suc (length-fit w b [])
length-fit (suc w) b (c ∷ bs) = ap suc (length-fit w b bs)

-- of two lists of so many bits either has so many
length-either : (c : Bool) (xs ys : List Bit) (w : ℕ) → length xs ≡ w → length ys ≡ w → length (cond c xs ys) ≡ w
length-either true xs ys w p q = p
length-either false xs ys w p q = q

length-digits : (n w : ℕ) (digits : List ℕ) → length (bits_of_digits n w digits) ≡ w
length-digits n w digits = length-fit w (filler digits) (flat_map (digit_bits n) (reverse digits))

length-decimal : (w : ℕ) (digits : List ℕ) → length (bits_of_decimal w digits) ≡ w
length-decimal w digits =
    length-either (is_strange (slice_index digits 0)) (fill w (strange_bit (slice_index digits 0))) (low_bits w (number 0 digits)) w (length-replicate w (strange_bit (slice_index digits 0))) (length-low_bits w (number 0 digits))

length-in_base : (letter w : ℕ) (digits : List ℕ) → length (bits_in_base letter w digits) ≡ w
length-in_base letter w digits =
    length-either (is_letter 98 letter) _ _ w (length-digits 1 w digits)
    (length-either (is_letter 111 letter) _ _ w (length-digits 3 w digits)
    (length-either (is_letter 104 letter) _ _ w (length-digits 4 w digits)
    (length-either (is_letter 100 letter) _ _ w (length-decimal w digits) (length-replicate w Zero))))

has_width : (bits : List Bit) (signed : Bool) (w : ℕ) → length bits ≡ w → 1 ≤ w → w ≤ 128 → HasWidth (record { bits = bits; signed = signed })
has_width bits signed w e low high = (omega arith, omega arith)

pub decimal_has_width : (text : List ℕ) → HasWidth (decimal_vector text)
decimal_has_width text = has_width (low_bits 32 (number 0 text)) true 32 (length-low_bits 32 (number 0 text)) (omega arith) (omega arith)

pub based_has_width : (w : ℕ) (text : List ℕ) → 1 ≤ w → w ≤ 128 → HasWidth (based_vector w text)
unfolding based_vector
based_has_width w text low high =
    has_width (bits_in_base (slice_index text (letter_at text)) w (digits_of text)) (letter_at text == 2) w (length-in_base (slice_index text (letter_at text)) w (digits_of text)) low high

-- a number that is clamped is from 1 to 128
clamped : (n : ℕ) → (1 ≤ cond (n == 0) 1 (cond (nat_le 128 n) 128 n)) × (cond (n == 0) 1 (cond (nat_le 128 n) 128 n) ≤ 128)
clamped n = by_zero (n == 0) refl
  where
    by_limit : (n ≡ 0 → ⊥) → (b : Bool) → nat_le 128 n ≡ b → (1 ≤ cond b 128 n) × (cond b 128 n ≤ 128)
    by_limit k true e = (omega arith, omega arith)
    by_limit k false e = let h : n < 128 = leb-false 128 n e in (omega arith, omega arith)

    by_zero : (b : Bool) → (n == 0) ≡ b → (1 ≤ cond b 1 (cond (nat_le 128 n) 128 n)) × (cond b 1 (cond (nat_le 128 n) 128 n) ≤ 128)
    by_zero true e = (omega arith, omega arith)
    by_zero false e = by_limit (eqb-false n 0 e) (nat_le 128 n) refl

pub width_from_one : (size : List ℕ) → 1 ≤ width_of size
width_from_one size = (clamped (number 0 size)).0

pub width_to_limit : (size : List ℕ) → width_of size ≤ 128
width_to_limit size = (clamped (number 0 size)).1
