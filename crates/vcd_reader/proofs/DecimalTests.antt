-- Decimal words by a test.
use Rattle.std.proofs.Common.{◌≡◌, ℕ, ◌<◌, ◌≤◌, true, false, List, [], ◌∷◌, length, Some, None, refl, inl, inr, arith}
use Rattle.std.proofs.lemmas.Bool.{cases_Bool}
use Rattle.std.proofs.lemmas.Bool.Decides.{nat_tests}
use Rattle.std.specs.Prelude.{nat_lt, nat_le}
use Rattle.std.specs.List.{list_all}
use Rattle.std.specs.Char.{digit_value}
use Rattle.std.specs.Str.Parse.{AllDigits}
use Rattle.cov_host.specs.Decimal.{IsDecimal, decimal_value}
use Rattle.vcd_reader.specs.Header.{is_decimal, size_of}

all_digits : (word : List ℕ) → AllDigits 10 word → list_all (λ byte. nat_lt (digit_value byte) 10) word ≡ true
all_digits [] each = refl
all_digits (byte ∷ word) each = let this : nat_lt (digit_value byte) 10 ≡ true = grind (arith, nat_tests, each.0) in rw (this, all_digits word each.1) refl

AllDigits-all : (word : List ℕ) → list_all (λ byte. nat_lt (digit_value byte) 10) word ≡ true → AllDigits 10 word
AllDigits-all [] each = tt
AllDigits-all (byte ∷ word) each = (grind (arith, nat_tests), AllDigits-all word (grind (arith, nat_tests)))

pub is_decimal_true : (word : List ℕ) → IsDecimal word → is_decimal word ≡ true
is_decimal_true word decimal = let some : nat_lt 0 (length word) ≡ true = grind (arith, nat_tests, decimal.0) in rw (some, all_digits word decimal.1) refl

pub IsDecimal-true : (word : List ℕ) → is_decimal word ≡ true → IsDecimal word
IsDecimal-true word test = (grind (arith, nat_tests), AllDigits-all word (grind (arith, nat_tests)))

pub size_of_some : (word : List ℕ) → IsDecimal word → 1 ≤ decimal_value word → decimal_value word ≤ 999999999 → size_of word ≡ Some (decimal_value word)
size_of_some word decimal some within =
    let least : nat_le 1 (decimal_value word) ≡ true = grind (arith, nat_tests) in
    let small : nat_le (decimal_value word) 999999999 ≡ true = grind (arith, nat_tests) in
    rw (is_decimal_true word decimal, least, small) refl

pub size_of_zero : (word : List ℕ) → IsDecimal word → decimal_value word ≡ 0 → size_of word ≡ None
size_of_zero word decimal zero =
    let least : nat_le 1 (decimal_value word) ≡ false = grind (arith, nat_tests) in
    rw (is_decimal_true word decimal, least) refl

pub size_of_none : (word : List ℕ) → (IsDecimal word → 999999999 < decimal_value word) → size_of word ≡ None
size_of_none word large =
    elim (cases_Bool (is_decimal word)) [
      | inl test ↦
          let least : nat_le 1 (decimal_value word) ≡ true = grind (arith, nat_tests, large (IsDecimal-true word test)) in
          let big : nat_le (decimal_value word) 999999999 ≡ false = grind (arith, nat_tests, large (IsDecimal-true word test)) in
          rw (test, least, big) refl
      | inr other ↦ rw other refl
    ]
