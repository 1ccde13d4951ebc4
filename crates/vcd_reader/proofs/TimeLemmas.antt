-- The digits of a time, one more at their end.
use Rattle.std.proofs.Common.{◌≡◌, ℕ, ◌+◌, ◌*◌, ◌^◌, ◌<◌, min, Bool, true, false, ◌&&◌, List, [], ◌∷◌, ◌++◌, length, refl, sym, ap, ◌∙◌, arith}
use Rattle.std.specs.Prelude.{nat_lt}
use Rattle.std.specs.Char.{digit_value}
use Rattle.std.specs.Str.Parse.{digits_value_after}
use Rattle.std.proofs.lemmas.Bool.Decides.{nat_tests}
use Rattle.std.proofs.lemmas.List.{length-append}
use Rattle.cov_host.specs.Decimal.{decimal_value}
use Rattle.vcd_reader.specs.Holding.{IsTimeDigits, all_decimal}
use Rattle.vcd_reader.specs.declared.time_digits.TimeDigits.{TimeDigits}
use Rattle.vcd_reader.proofs.DigitLemmas.{list_all-push}

value_after-push : (n : ℕ) (word : List ℕ) (byte : ℕ) → digits_value_after 10 n (word ++ byte ∷ []) ≡ digits_value_after 10 n word * 10 + digit_value byte
value_after-push n [] byte = refl
value_after-push n (b ∷ word) byte = value_after-push (n * 10 + digit_value b) word byte

capped : (value digit limit : ℕ) → min (min value limit * 10 + digit) limit ≡ min (value * 10 + digit) limit
capped value digit limit = omega arith

and_true : (a b : Bool) → b ≡ true → a ≡ (a && b)
and_true true b holds = sym holds
and_true false b holds = refl

some_more : (word : List ℕ) (byte : ℕ) → true ≡ nat_lt 0 (length (word ++ byte ∷ []))
some_more word byte = let long : length (word ++ byte ∷ []) ≡ length word + 1 = length-append word (byte ∷ []) in grind (arith, nat_tests, long)

pub time_more : (kept : TimeDigits) (word : List ℕ) (byte digit value : ℕ) → IsTimeDigits kept word → digit_value byte ≡ digit → digit < 10 → value ≡ min (kept.value * 10 + digit) (2 ^ 63)
    → IsTimeDigits (record { value = value; is_some = true; is_decimal = kept.is_decimal }) (word ++ byte ∷ [])
time_more kept word byte digit value t is_digit small more =
    let test : nat_lt (digit_value byte) 10 ≡ true = grind (arith, nat_tests) in
    record {
      some = some_more word byte;
      decimal = t.decimal ∙ and_true (all_decimal word) (nat_lt (digit_value byte) 10) test ∙ sym (list_all-push (λ b. nat_lt (digit_value b) 10) word byte);
      value = λ decimal. more ∙ ap (λ (v : ℕ). min (v * 10 + digit) (2 ^ 63)) (t.value decimal) ∙ capped (decimal_value word) digit (2 ^ 63)
          ∙ ap (λ (v : ℕ). min v (2 ^ 63)) (ap (λ (d : ℕ). decimal_value word * 10 + d) (sym is_digit) ∙ sym (value_after-push 0 word byte));
    }
