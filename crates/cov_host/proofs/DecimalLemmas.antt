-- Decimal words, read from the left.
use Rattle.std.proofs.Common.{◌≡◌, ℕ, zero, suc, refl, ◌+◌, ◌*◌, ◌<◌, ◌≤◌, List, [], ◌∷◌, ◌++◌, length, take, drop, get_or, subst, arith}
use Rattle.std.proofs.lemmas.List.{take-append-drop}
use Rattle.std.specs.Char.{digit_value}
use Rattle.std.specs.Str.Parse.{digits_value, digits_value_after, AllDigits}

-- more digits write no less
pub digits_value_after-ge : (number : ℕ) (word : List ℕ) → number ≤ digits_value_after 10 number word
digits_value_after-ge number [] = omega arith
digits_value_after-ge number (c ∷ cs) = omega (arith, digits_value_after-ge (number * 10 + digit_value c) cs)

digits_value_after-append : (number : ℕ) (front back : List ℕ) → digits_value_after 10 number (front ++ back) ≡ digits_value_after 10 (digits_value_after 10 number front) back
digits_value_after-append number [] back = refl
digits_value_after-append number (c ∷ cs) back = digits_value_after-append (number * 10 + digit_value c) cs back

-- the first digits write no more than all of them do
pub digits_value-take : (word : List ℕ) (i : ℕ) → digits_value 10 (take i word) ≤ digits_value 10 word
digits_value-take word i =
    subst (λ w. digits_value 10 (take i word) ≤ digits_value 10 w) (take-append-drop i word)
    (rw (digits_value_after-append 0 (take i word) (drop i word)) (digits_value_after-ge (digits_value 10 (take i word)) (drop i word)))

-- a word of digits has a digit at each place
pub AllDigits-at : (word : List ℕ) (i : ℕ) → i < length word → AllDigits 10 word → digit_value (get_or word i 0) < 10
AllDigits-at [] i within digits = absurd (omega arith)
AllDigits-at (c ∷ cs) zero within digits = digits.0
AllDigits-at (c ∷ cs) (suc i) within digits = AllDigits-at cs i (omega arith) digits.1
