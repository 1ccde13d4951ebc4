-- Tests on all bits by whether a mask is 0, and what the reductions give by such tests.
use Rattle.std.proofs.Common.{◌≡◌, ℕ, ◌+◌, ◌*◌, ◌%◌, ◌==◌, Bool, true, false, not, ◌&&◌, ◌||◌, if◌then◌else◌, List, [], ◌∷◌, refl, ap, arith, sym, ◌∙◌}
use Rattle.std.specs.List.{list_any, list_all}
use Rattle.std.specs.Int.RustNames.{count_ones}
use Rattle.std.proofs.lemmas.Bool.Decides.{nat_tests}
use Rattle.std.proofs.lemmas.Nat.{ones_cat}
use Rattle.four_state.specs.Vector.{Bit, Zero, One, X, Z, is_known, is_one, is_zero, all_known, bit_of}
use Rattle.four_state.specs.Operators.{reduce, and_bit, or_bit, xor_bit}
use Rattle.four_state.specs.Masks.{mask_of, is_strange}
use Rattle.four_state.proofs.Places.{differ}

ones_zero : count_ones 0 ≡ 0
unfolding count_ones
ones_zero = refl

ones_one : count_ones 1 ≡ 1
unfolding count_ones
ones_one = refl

digit_is_zero : (p : Bool) (m : ℕ) → ((if p then 1 else 0) + 2 * m == 0) ≡ (not p && (m == 0))
digit_is_zero false m = grind (arith, nat_tests)
digit_is_zero true m = grind (arith, nat_tests)

not-or : (p q : Bool) → (not p && not q) ≡ not (p || q)
not-or false q = refl
not-or true q = refl

-- a mask is 0 where no bit passes its test
pub mask_is_zero : (p : Bit → Bool) (bs : List Bit) → (mask_of p bs == 0) ≡ not (list_any p bs)
unfolding mask_of
mask_is_zero p [] = refl
mask_is_zero p (b ∷ bs) =
    digit_is_zero (p b) (mask_of p bs) ∙ ap (λ q. not (p b) && q) (mask_is_zero p bs) ∙ not-or (p b) (list_any p bs)

pub not_not : (p : Bool) → not (not p) ≡ p
not_not false = refl
not_not true = refl

pub mask_is_not_zero : (p : Bit → Bool) (bs : List Bit) → not (mask_of p bs == 0) ≡ list_any p bs
mask_is_not_zero p bs = ap not (mask_is_zero p bs) ∙ not_not (list_any p bs)

none_strange : (bs : List Bit) → not (list_any is_strange bs) ≡ all_known bs
none_strange [] = refl
none_strange (b ∷ bs) = sym (not-or (is_strange b) (list_any is_strange bs)) ∙ ap (λ q. not (is_strange b) && q) (none_strange bs) ∙ ap (λ p. p && all_known bs) (not_not (is_known b))

pub no_strange_place : (bs : List Bit) → (mask_of is_strange bs == 0) ≡ all_known bs
no_strange_place bs = mask_is_zero is_strange bs ∙ none_strange bs

and_step : (b : Bit) (zero known : Bool) → and_bit b (if zero then Zero else (if known then One else X)) ≡ (if (is_zero b || zero) then Zero else (if (is_known b && known) then One else X))
and_step Zero zero known = refl
and_step One true true = refl
and_step One true false = refl
and_step One false true = refl
and_step One false false = refl
and_step X true true = refl
and_step X true false = refl
and_step X false true = refl
and_step X false false = refl
and_step Z true true = refl
and_step Z true false = refl
and_step Z false true = refl
and_step Z false false = refl

pub and_of_all : (bs : List Bit) → reduce and_bit One bs ≡ (if list_any is_zero bs then Zero else (if all_known bs then One else X))
and_of_all [] = refl
and_of_all (b ∷ bs) = ap (and_bit b) (and_of_all bs) ∙ and_step b (list_any is_zero bs) (all_known bs)

or_step : (b : Bit) (one known : Bool) → or_bit b (if one then One else (if known then Zero else X)) ≡ (if (is_one b || one) then One else (if (is_known b && known) then Zero else X))
or_step One one known = refl
or_step Zero true true = refl
or_step Zero true false = refl
or_step Zero false true = refl
or_step Zero false false = refl
or_step X true true = refl
or_step X true false = refl
or_step X false true = refl
or_step X false false = refl
or_step Z true true = refl
or_step Z true false = refl
or_step Z false true = refl
or_step Z false false = refl

pub or_of_all : (bs : List Bit) → reduce or_bit Zero bs ≡ (if list_any is_one bs then One else (if all_known bs then Zero else X))
or_of_all [] = refl
or_of_all (b ∷ bs) = ap (or_bit b) (or_of_all bs) ∙ or_step b (list_any is_one bs) (all_known bs)

known_step : (b : Bit) (one known : Bool) → (is_one b || one) ≡ false → (is_known b && known) ≡ (is_zero b && known)
known_step Zero one known h = refl
known_step One one known h = cc
known_step X one known h = refl
known_step Z one known h = refl

rest_has_none : (p q : Bool) → (p || q) ≡ false → q ≡ false
rest_has_none false q h = h
rest_has_none true q h = cc

-- where no bit is 1, all are known where all are 0
pub all_zero : (bs : List Bit) → list_any is_one bs ≡ false → all_known bs ≡ list_all is_zero bs
all_zero [] h = refl
all_zero (b ∷ bs) h =
    known_step b (list_any is_one bs) (all_known bs) h ∙ ap (λ q. is_zero b && q) (all_zero bs (rest_has_none (is_one b) (list_any is_one bs) h))

ones_of_digit : (p : Bool) (m : ℕ) → count_ones ((if p then 1 else 0) + 2 * m) ≡ (if p then 1 else 0) + count_ones m
ones_of_digit false m = ap count_ones (omega arith) ∙ ones_cat 1 m 0 (omega arith) ∙ omega (arith, ones_zero)
ones_of_digit true m = ap count_ones (omega arith) ∙ ones_cat 1 m 1 (omega arith) ∙ omega (arith, ones_one)

odd_of_digit : (p : Bool) (n : ℕ) → (((if p then 1 else 0) + n) % 2 == 1) ≡ differ p (n % 2 == 1)
odd_of_digit false n = ap (λ m. m % 2 == 1) (omega arith)
odd_of_digit true n = grind (arith, nat_tests)

xor_step : (b : Bit) (known q : Bool) → xor_bit b (if known then bit_of q else X) ≡ (if (is_known b && known) then bit_of (differ (is_one b) q) else X)
xor_step Zero true true = refl
xor_step Zero true false = refl
xor_step Zero false q = refl
xor_step One true true = refl
xor_step One true false = refl
xor_step One false q = refl
xor_step X true true = refl
xor_step X true false = refl
xor_step X false q = refl
xor_step Z true true = refl
xor_step Z true false = refl
xor_step Z false q = refl

odd_of : List Bit → Bool
odd_of bs = count_ones (mask_of is_one bs) % 2 == 1

odd_of-cons : (b : Bit) (bs : List Bit) → odd_of (b ∷ bs) ≡ differ (is_one b) (odd_of bs)
unfolding odd_of mask_of
odd_of-cons b bs = ap (λ n. n % 2 == 1) (ones_of_digit (is_one b) (mask_of is_one bs)) ∙ odd_of_digit (is_one b) (count_ones (mask_of is_one bs))

odd_of-nil : odd_of [] ≡ false
unfolding odd_of mask_of
odd_of-nil = ap (λ n. n % 2 == 1) ones_zero

xor_by_odd : (bs : List Bit) → reduce xor_bit Zero bs ≡ (if all_known bs then bit_of (odd_of bs) else X)
xor_by_odd [] = ap bit_of (sym odd_of-nil)
xor_by_odd (b ∷ bs) =
    ap (xor_bit b) (xor_by_odd bs) ∙ xor_step b (all_known bs) (odd_of bs) ∙ ap (λ q. if (is_known b && all_known bs) then bit_of q else X) (sym (odd_of-cons b bs))

pub xor_of_all : (bs : List Bit) → reduce xor_bit Zero bs ≡ (if all_known bs then bit_of (count_ones (mask_of is_one bs) % 2 == 1) else X)
unfolding odd_of
xor_of_all bs = xor_by_odd bs
