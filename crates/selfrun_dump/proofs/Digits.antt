-- The digits of times and values.
use Rattle.std.proofs.Common.{◌≡◌, ℕ, zero, suc, ◌+◌, ◌-◌, ◌/◌, ◌%◌, ◌^◌, ◌<◌, ◌≤◌, ◌==◌, ◌&&◌, ⊎_elim, true, false, not, List, [], ◌∷◌, ◌++◌, length, map, reverse, refl, sym, ap, ◌∙◌, arith, nat_le, nat_lt, cond, append-nil}
use Rattle.cov_host.specs.Decimal.{decimal_value}
use Rattle.std.specs.Char.{digit_value}
use Rattle.std.specs.Fmt.{decimal}
use Rattle.std.specs.List.{list_all}
use Rattle.std.specs.Str.Parse.{AllDigits}
use Rattle.std.proofs.lemmas.Bool.{and_from, and_right, cases_lt, false_from_ne_true, eqb-true, leb-true, lt-ltb, or_from}
use Rattle.std.proofs.lemmas.Grind.{reverse_onto}
use Rattle.std.proofs.Math.Nat.{div-div-eq-div-mul, pow-succ'}
use Rattle.std.proofs.lemmas.Fmt.{decimal_is_IsNumeral, length-decimal-le}
use Rattle.four_state.specs.Arithmetic.{low_bits}
use Rattle.four_state.specs.Vector.{bit_of, fill, top}
use Rattle.four_state.specs.declared.bit.Bit.{Bit}
use Rattle.vcd_reader.specs.Header.{is_decimal}
use Rattle.vcd_reader.specs.Values.{digit_bit, digit_bits, extension, is_digit, value_bits}
use Rattle.vcd_reader.specs.Words.{IsBlack, is_white_space}
use Rattle.vcd_reader.proofs.DecimalTests.{is_decimal_true}
use Rattle.selfrun_files.specs.Text.{bit_digits}

-- a byte from the digit 0 on is no white space
pub no_space : (byte : ℕ) → 48 ≤ byte → is_white_space byte ≡ false
no_space byte from =
    or_from (byte == 32) (nat_le 9 byte && nat_le byte 13) (false_from_ne_true (byte == 32) (λ e. omega (arith, from, eqb-true byte 32 e)))
    (and_right (nat_le 9 byte) (nat_le byte 13) (false_from_ne_true (nat_le byte 13) (λ e. omega (arith, from, leb-true byte 13 e))))

digit_from : (byte : ℕ) → digit_value byte < 10 → 48 ≤ byte
digit_from byte is = ⊎_elim (λ less. absurd (no_digit less)) (λ from. from) (cases_lt byte 48)
  where
    no_digit : byte < 48 → ⊥
    no_digit less =
        let other : ℕ = cond (nat_lt byte 58) (byte - 48) (cond (nat_lt byte 65) 36 (cond (nat_lt byte 91) (byte - 55) (cond (nat_lt byte 97) 36 (cond (nat_lt byte 123) (byte - 87) 36)))) in
        let value : digit_value byte ≡ 36 = ap (λ b. cond b 36 other) (lt-ltb byte 48 less) in
        omega (arith, is, value)

digits_black : (ds : List ℕ) → AllDigits 10 ds → IsBlack ds
digits_black [] each = refl
digits_black (d ∷ ds) each = and_from (not (is_white_space d)) (list_all (λ byte. not (is_white_space byte)) ds) (ap not (no_space d (digit_from d each.0))) (digits_black ds each.1)

-- what a time is written as
pub record IsTimeWord (t : ℕ) : Type 0 where
  pub black : IsBlack (decimal t)
  pub is_decimal : is_decimal (decimal t) ≡ true
  pub value : decimal_value (decimal t) ≡ t
  pub short : length (decimal t) ≤ 20

pub time_written : (t : ℕ) → t < 2 ^ 63 → IsTimeWord t
time_written t below =
    let is = decimal_is_IsNumeral t (omega (arith, below)) in
    record { black = digits_black (decimal t) is.0.1; is_decimal = is_decimal_true (decimal t) is.0; value = is.1; short = length-decimal-le 20 t (omega arith) (omega (arith, below)) (omega (arith, below)) }

-- ---- the digits of values

-- a digit of one bit
bit_digit : (x : ℕ) → x < 2 → (digit_bit (48 + x) ≡ bit_of (x == 1)) × (is_digit (48 + x) ≡ true)
bit_digit zero below = (refl, refl)
bit_digit (suc zero) below = (refl, refl)
bit_digit (suc (suc x)) below = absurd (omega (arith, below))

pub all_bits : (n value : ℕ) → list_all is_digit (bit_digits n value) ≡ true
all_bits zero value = refl
all_bits (suc n) value = and_from (is_digit (48 + value / 2 ^ n % 2)) (list_all is_digit (bit_digits n value)) (bit_digit (value / 2 ^ n % 2) (omega arith)).1 (all_bits n value)

pub bits_black : (n value : ℕ) → IsBlack (bit_digits n value)
bits_black zero value = refl
bits_black (suc n) value = and_from (not (is_white_space (48 + value / 2 ^ n % 2))) (list_all (λ byte. not (is_white_space byte)) (bit_digits n value)) (ap not (no_space (48 + value / 2 ^ n % 2) (omega arith))) (bits_black n value)

pub count_bits : (n value : ℕ) → length (bit_digits n value) ≡ n
count_bits zero value = refl
count_bits (suc n) value = ap suc (count_bits n value)

-- the lowest bits with one more
low_bits_more : (n value : ℕ) → low_bits (suc n) value ≡ low_bits n value ++ bit_of (value / 2 ^ n % 2 == 1) ∷ []
low_bits_more zero value = let whole : value ≡ value / 2 ^ 0 = omega arith in ap (λ x. bit_of (x % 2 == 1) ∷ []) whole
low_bits_more (suc n) value =
    let halves : value / 2 / 2 ^ n ≡ value / 2 ^ suc n = div-div-eq-div-mul value 2 (2 ^ n) ∙ ap (λ x. value / x) (sym (pow-succ' 2 n)) in
    ap (λ bs. bit_of (value % 2 == 1) ∷ bs) (low_bits_more n (value / 2) ∙ ap (λ x. low_bits n (value / 2) ++ bit_of (x % 2 == 1) ∷ []) halves)

-- the digits, the highest first, are those of the lowest bits
digits_are : (n value : ℕ) → reverse (map digit_bit (bit_digits n value)) ≡ low_bits n value
digits_are zero value = refl
digits_are (suc n) value =
    reverse_onto (map digit_bit (bit_digits n value)) (digit_bit (48 + value / 2 ^ n % 2)) []
    ∙ ap (λ bs. bs ++ digit_bit (48 + value / 2 ^ n % 2) ∷ []) (digits_are n value)
    ∙ ap (λ b. low_bits n value ++ b ∷ []) (bit_digit (value / 2 ^ n % 2) (omega arith)).0 ∙ sym (low_bits_more n value)

-- as many digits as the size give the lowest bits
pub value_digits : (n value : ℕ) → value_bits n (bit_digits n value) ≡ low_bits n value
value_digits n value =
    let filler : Bit = extension (top (digit_bits (bit_digits n value))) in
    let none : n - length (bit_digits n value) ≡ 0 = omega (arith, count_bits n value) in
    ap (λ x. digit_bits (bit_digits n value) ++ fill x filler) none ∙ append-nil (digit_bits (bit_digits n value)) ∙ digits_are n value
