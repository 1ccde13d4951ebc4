-- What words that follow `selfrun` come to, as a function of them: its values, or the text of a fault.
use Rattle.std.proofs.Common.{◌≡◌, ◌∙◌, ◌<◌, ◌≤◌, ℕ, Bool, true, false, cond, refl, arith, List, [], ◌∷◌, ◌++◌, length, Result, Ok, Err, codes}
use Rattle.std.proofs.lemmas.Bool.{false_from_ne_true}
use Rattle.std.proofs.lemmas.Bool.Decides.{nat_tests}
use Rattle.std.specs.Prelude.{nat_lt, nat_le, ◌&&◌}
use Rattle.std.specs.List.{list_all}
use Rattle.std.specs.Char.{digit_value}
use Rattle.std.specs.Str.Parse.{AllDigits}
use Rattle.cov_host.specs.Decimal.{IsDecimal, decimal_value}
use Rattle.command_line.specs.SelfrunWords.{HasNumber, HasSteps, IsNoNumber, IsNoSteps}
use Rattle.command_line.specs.declared.selfrun_words.SelfrunWords.{SelfrunWords}

abbrev pub is_decimal : List ℕ → Bool
is_decimal word = nat_lt 0 (length word) && list_all (λ byte. nat_lt (digit_value byte) 10) word

abbrev pub is_number : List ℕ → Bool
is_number word = is_decimal word && nat_le (decimal_value word) 4294967295

abbrev pub is_steps : List ℕ → Bool
is_steps word = is_decimal word && (nat_le 1 (decimal_value word) && nat_le (decimal_value word) 1000000)

abbrev pub end_of : SelfrunWords → List (List ℕ) → Result SelfrunWords (List ℕ)
end_of values [] = Ok values
end_of values (third ∷ left) = Err (codes "unknown word " ++ third)

abbrev pub steps_of : ℕ → List (List ℕ) → Result SelfrunWords (List ℕ)
steps_of number [] = Err (codes "missing STEPS")
steps_of number (second ∷ left) = cond (is_steps second) (end_of (record { number = number; steps = decimal_value second }) left) (Err (codes "bad value " ++ second))

abbrev pub outcome : List (List ℕ) → Result SelfrunWords (List ℕ)
outcome [] = Err (codes "missing NUMBER")
outcome (first ∷ left) = cond (is_number first) (steps_of (decimal_value first) left) (Err (codes "bad value " ++ first))

all_digits : (word : List ℕ) → AllDigits 10 word → list_all (λ byte. nat_lt (digit_value byte) 10) word ≡ true
all_digits [] each = refl
all_digits (byte ∷ word) each = let this : nat_lt (digit_value byte) 10 ≡ true = grind (arith, nat_tests, each.0) in rw (this, all_digits word each.1) refl

AllDigits-all : (word : List ℕ) → list_all (λ byte. nat_lt (digit_value byte) 10) word ≡ true → AllDigits 10 word
AllDigits-all [] each = tt
AllDigits-all (byte ∷ word) each = (grind (arith, nat_tests), AllDigits-all word (grind (arith, nat_tests)))

is_decimal_true : (word : List ℕ) → IsDecimal word → is_decimal word ≡ true
is_decimal_true word decimal = let some : nat_lt 0 (length word) ≡ true = grind (arith, nat_tests, decimal.0) in rw (some, all_digits word decimal.1) refl

IsDecimal-true : (word : List ℕ) → is_decimal word ≡ true → IsDecimal word
IsDecimal-true word test = (grind (arith, nat_tests), AllDigits-all word (grind (arith, nat_tests)))

pub number_true : (word : List ℕ) (number : ℕ) → HasNumber word number → is_number word ≡ true
number_true word number has =
    let small : nat_le (decimal_value word) 4294967295 ≡ true = grind (arith, nat_tests, has.value, has.within) in
    rw (is_decimal_true word has.is_decimal, small) refl

pub number_false : (word : List ℕ) → IsNoNumber word → is_number word ≡ false
number_false word none = false_from_ne_true (is_number word) (λ test. none (decimal_value word) (record {
  is_decimal = IsDecimal-true word (grind (arith, nat_tests));
  value = refl;
  within = grind (arith, nat_tests);
}))

pub steps_true : (word : List ℕ) (steps : ℕ) → HasSteps word steps → is_steps word ≡ true
steps_true word steps has =
    let least : nat_le 1 (decimal_value word) ≡ true = grind (arith, nat_tests, has.value, has.some) in
    let small : nat_le (decimal_value word) 1000000 ≡ true = grind (arith, nat_tests, has.value, has.within) in
    rw (is_decimal_true word has.is_decimal, least, small) refl

pub steps_false : (word : List ℕ) → IsNoSteps word → is_steps word ≡ false
steps_false word none = false_from_ne_true (is_steps word) (λ test. none (decimal_value word) (record {
  is_decimal = IsDecimal-true word (grind (arith, nat_tests));
  value = refl;
  some = grind (arith, nat_tests);
  within = grind (arith, nat_tests);
}))

-- a number and a number of steps come to these values
pub outcome-values : (first second : List ℕ) (values : SelfrunWords) → HasNumber first values.number → HasSteps second values.steps → outcome (first ∷ second ∷ []) ≡ Ok values
outcome-values first second values number steps = rw (number_true first values.number number, steps_true second values.steps steps, number.value, steps.value) refl
