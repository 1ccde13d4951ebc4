-- Numbers as fields.
use Rattle.std.proofs.Common.{◌≡◌, ℕ, ◌^◌, ◌<◌, ◌≤◌, Bool, true, false, eqb, List, [], ◌∷◌, length, get_or, Some, None, refl, sym, inl, inr, arith, rules}
use Rattle.std.specs.Prelude.{nat_le, ◌&&◌, decimal}
use Rattle.std.specs.List.{list_all}
use Rattle.std.specs.Char.{digit_value, is_ascii_digit}
use Rattle.std.specs.Str.Parse.{AllDigits, digits_value}
use Rattle.std.proofs.lemmas.Bool.{cases_Bool}
use Rattle.std.proofs.lemmas.Bool.Decides.{nat_tests}
use Rattle.std.proofs.lemmas.Fmt.{decimal_is_IsNumeral, digits_decimal, decimal-digits_value, first_decimal, decimal_nonempty, decimal_digit}
use Rattle.std.proofs.lemmas.Option.{cond_some}
use Rattle.std.proofs.lemmas.Str.Parse.{IsNumeralModel, numerals_by_value}
use Rattle.cov_host.specs.Decimal.{IsDecimal, decimal_value}
use Rattle.coverage_db.specs.Fields.{is_plain, number_of}

digit_small : (c : ℕ) → is_ascii_digit c ≡ true → digit_value c < 10
digit_small c e = grind (arith, nat_tests)

plain_digits : (word : List ℕ) → list_all is_ascii_digit word ≡ true → AllDigits 10 word
plain_digits [] e = tt
plain_digits (c ∷ cs) e =
    elim (cases_Bool (is_ascii_digit c)) [
      | inl digit ↦ (digit_small c digit, plain_digits cs (rw digit at e))
      | inr other ↦ absurd (let bad : false ≡ true = rw other at e in cc)
    ]

pub plain_all : (word : List ℕ) → is_plain word ≡ true → list_all is_ascii_digit word ≡ true
plain_all [] e = refl
plain_all (c ∷ cs) e = grind arith

pub plain_decimal : (word : List ℕ) → is_plain word ≡ true → IsDecimal word
plain_decimal [] e = absurd cc
plain_decimal (c ∷ cs) e = (omega arith, plain_digits (c ∷ cs) (plain_all (c ∷ cs) e))

own : IsNumeralModel (λ ds. list_all is_ascii_digit ds ≡ true) (digits_value 10)
own = numerals_by_value _ (search rules)

-- ---- a number between bounds

abbrev tests : (least greatest : ℕ) (word : List ℕ) → Bool
tests least greatest word = is_plain word && nat_le least (decimal_value word) && nat_le (decimal_value word) greatest

pub number_plain : (least greatest : ℕ) (word : List ℕ) → is_plain word ≡ false → number_of least greatest word ≡ None
unfolding number_of
number_plain least greatest word other = rw other refl

pub number_some : (least greatest number : ℕ) (word : List ℕ) → is_plain word ≡ true → number ≡ decimal_value word → least ≤ number → number ≤ greatest → number_of least greatest word ≡ Some number
unfolding number_of
number_some least greatest number word plain value low high =
    let not_less : nat_le least (decimal_value word) ≡ true = grind (arith, nat_tests) in
    let not_more : nat_le (decimal_value word) greatest ≡ true = grind (arith, nat_tests) in
    rw (plain, not_less, not_more, value) refl

pub number_small : (least greatest number : ℕ) (word : List ℕ) → is_plain word ≡ true → number ≡ decimal_value word → number < least → number_of least greatest word ≡ None
unfolding number_of
number_small least greatest number word plain value low =
    let less : nat_le least (decimal_value word) ≡ false = grind (arith, nat_tests) in
    rw (plain, less) refl

pub number_large : (least greatest : ℕ) (word : List ℕ) → is_plain word ≡ true → (IsDecimal word → greatest < decimal_value word) → number_of least greatest word ≡ None
unfolding number_of
number_large least greatest word plain large =
    let more : nat_le (decimal_value word) greatest ≡ false = grind (arith, nat_tests, large (plain_decimal word plain)) in
    elim (cases_Bool (nat_le least (decimal_value word))) [
      | inl low ↦ rw (plain, low, more) refl
      | inr small ↦ rw (plain, small) refl
    ]

-- what a number says of its field
pub record IsNumber (least greatest number : ℕ) (word : List ℕ) : Type 0 where
  pub spelled : word ≡ decimal number
  pub low : least ≤ number
  pub high : number ≤ greatest

first_digit : (word : List ℕ) → is_plain word ≡ true → get_or word 0 0 ≡ 48 → length word ≡ 1
first_digit [] plain zero = absurd cc
first_digit (c ∷ cs) plain zero =
    let is : eqb c 48 ≡ true = grind (arith, nat_tests) in
    let digits = plain_all (c ∷ cs) plain in
    let short : eqb (length cs) 0 ≡ true = rw (digits, is) at plain in
    grind (arith, nat_tests)

pub plain_spelled : (word : List ℕ) → is_plain word ≡ true → decimal_value word < 2 ^ 64 → decimal (decimal_value word) ≡ word
plain_spelled word plain small = decimal-digits_value own word (plain_all word plain) (plain_decimal word plain).0 (first_digit word plain) small

pub number_takes : (least greatest number : ℕ) (word : List ℕ) → greatest < 2 ^ 64 → number_of least greatest word ≡ Some number → IsNumber least greatest number word
unfolding number_of
number_takes least greatest number word fits e =
    let taken = cond_some (tests least greatest word) (decimal_value word) number e in
    let plain : is_plain word ≡ true = grind (arith, taken.0) in
    let low : least ≤ decimal_value word = grind (arith, nat_tests, taken.0) in
    let high : decimal_value word ≤ greatest = grind (arith, nat_tests, taken.0) in
    rw (← taken.1) (record { spelled = sym (plain_spelled word plain (omega arith)); low = low; high = high })

first_zero : (n : ℕ) → n < 2 ^ 64 → get_or (decimal n) 0 0 ≡ 48 → length (decimal n) ≡ 1
first_zero n fits zero =
    elim (cases_Bool (eqb n 0)) [
      | inl none ↦ let is : n ≡ 0 = grind (arith, nat_tests) in rw (is, decimal_digit 0 (omega arith)) refl
      | inr some ↦ let above : 0 < n = grind (arith, nat_tests) in absurd (omega (arith, first_decimal n above fits))
    ]

is_plain_by : (word : List ℕ) → list_all is_ascii_digit word ≡ true → 0 < length word → (get_or word 0 0 ≡ 48 → length word ≡ 1) → is_plain word ≡ true
is_plain_by [] digits some zero = absurd (omega arith)
is_plain_by (c ∷ cs) digits some zero =
    elim (cases_Bool (eqb c 48)) [
      | inl is ↦
          let one : length (c ∷ cs) ≡ 1 = zero (grind (arith, nat_tests)) in
          let short : eqb (length cs) 0 ≡ true = grind (arith, nat_tests) in
          rw (digits, is, short) refl
      | inr other ↦ rw (digits, other) refl
    ]

pub decimal_plain : (n : ℕ) → n < 2 ^ 64 → is_plain (decimal n) ≡ true
decimal_plain n fits = is_plain_by (decimal n) (digits_decimal own n fits) (decimal_nonempty n fits) (first_zero n fits)

pub number_again : (least greatest number : ℕ) → greatest < 2 ^ 64 → least ≤ number → number ≤ greatest → number_of least greatest (decimal number) ≡ Some number
number_again least greatest number fits low high =
    let small : number < 2 ^ 64 = omega arith in
    number_some least greatest number (decimal number) (decimal_plain number small) (sym (decimal_is_IsNumeral number small).1) low high
