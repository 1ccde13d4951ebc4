-- Numbers of digits that are cut to 128 bits or to a size.
use Rattle.std.proofs.Common.{◌≡◌, ℕ, ◌+◌, ◌-◌, ◌*◌, ◌%◌, ◌^◌, ◌<◌, ◌≤◌, ◌==◌, nat_le, Bool, true, false, not, if◌then◌else◌, List, [], ◌∷◌, length, get_or, drop, filter, refl, ap, sym, arith, ◌∙◌}
use Rattle.std.proofs.lemmas.Bool.Decides.{nat_tests}
use Rattle.std.proofs.lemmas.List.{drop-drop, drop_all}
use Rattle.std.proofs.Math.Nat.{add-mod, mod-mod, mod-eq_of_lt}
use Rattle.std.proofs.lemmas.Nat.{mul-mod}
use Rattle.verilog_lexer.specs.Number.{number, with_digit}
use Rattle.verilog_lexer.proofs.Numbers.{number-drop}
use Rattle.verilog_expressions.specs.Digits.{is_digit, capped}

same_digit : (m v w d : ℕ) → v % m ≡ w % m → (v * 10 + d) % m ≡ (w * 10 + d) % m
same_digit m v w d e =
    add-mod (v * 10) d m ∙ ap (λ x. (x + d % m) % m) (mul-mod v 10 m ∙ ap (λ x. x * (10 % m) % m) e ∙ sym (mul-mod w 10 m)) ∙ sym (add-mod (w * 10) d m)

digit_cut : (m v w b : ℕ) (t : Bool) → v % m ≡ w % m → (if t then v else v * 10 + (b - 48)) % m ≡ (if t then w else w * 10 + (b - 48)) % m
digit_cut m v w b true e = e
digit_cut m v w b false e = same_digit m v w (b - 48) e

-- what is cut off adds nothing below
number_cut : (m v w : ℕ) (ds : List ℕ) → v % m ≡ w % m → number v ds % m ≡ number w ds % m
number_cut m v w [] e = e
number_cut m v w (d ∷ ds) e = number_cut m (with_digit v d) (with_digit w d) ds (digit_cut m v w d (d == 95) e)

pub number_next : (v w : ℕ) (ds : List ℕ) (i : ℕ) → i < length ds → w ≡ with_digit v (get_or ds i 0) % 2 ^ 128 → number v (drop i ds) % 2 ^ 128 ≡ number w (drop (i + 1) ds) % 2 ^ 128
number_next v w ds i h e =
    ap (λ n. n % 2 ^ 128) (number-drop v ds i h) ∙ number_cut (2 ^ 128) (with_digit v (get_or ds i 0)) w (drop (i + 1) ds) (sym (mod-mod (with_digit v (get_or ds i 0)) (2 ^ 128)) ∙ ap (λ n. n % 2 ^ 128) (sym e))

-- without digits after it a number is itself
pub number_end : (v : ℕ) (ds : List ℕ) (i : ℕ) → length ds ≤ i → v < 2 ^ 128 → number v (drop i ds) % 2 ^ 128 ≡ v
number_end v ds i h small = rw (drop_all i ds h) (mod-eq_of_lt small)

pub ruleset numbers = (number_next, number_end)

passed_over : (v b : ℕ) (ds : List ℕ) (t : Bool) → (b == 95) ≡ t → ((w : ℕ) → number w (filter is_digit ds) ≡ number w ds)
    → number v (if not t then b ∷ filter is_digit ds else filter is_digit ds) ≡ number (if t then v else v * 10 + (b - 48)) ds
passed_over v b ds true e h = h v
passed_over v b ds false e h = ap (λ t. number (if t then v else v * 10 + (b - 48)) (filter is_digit ds)) e ∙ h (v * 10 + (b - 48))

-- an underscore adds nothing
pub number_of_digits : (v : ℕ) (ds : List ℕ) → number v (filter is_digit ds) ≡ number v ds
number_of_digits v [] = refl
number_of_digits v (d ∷ ds) = passed_over v d ds (d == 95) refl (λ w. number_of_digits w ds)

pub ruleset tails = (drop-drop)

-- ---- sizes

capped_digit : (v w b : ℕ) → capped v ≡ capped w → capped (with_digit v b) ≡ capped (with_digit w b)
capped_digit v w b e = grind (arith, nat_tests)

capped_number : (v w : ℕ) (ds : List ℕ) → capped v ≡ capped w → capped (number v ds) ≡ capped (number w ds)
capped_number v w [] e = e
capped_number v w (d ∷ ds) e = capped_number (with_digit v d) (with_digit w d) ds (capped_digit v w d e)

capped_again : (n : ℕ) → capped (capped n) ≡ capped n
capped_again n = grind (arith, nat_tests)

pub size_next : (v w : ℕ) (ds : List ℕ) (i : ℕ) → i < length ds → w ≡ capped (with_digit v (get_or ds i 0)) → capped (number v (drop i ds)) ≡ capped (number w (drop (i + 1) ds))
size_next v w ds i h e =
    ap capped (number-drop v ds i h) ∙ capped_number (with_digit v (get_or ds i 0)) w (drop (i + 1) ds) (sym (capped_again (with_digit v (get_or ds i 0))) ∙ ap capped (sym e))

pub ruleset sizes = (size_next)
