-- Which places a number has, after each operation on whole words.
use Rattle.std.proofs.Common.{◌≡◌, ℕ, zero, suc, ◌+◌, ◌-◌, ◌*◌, ◌/◌, ◌%◌, ◌^◌, ◌<◌, ◌≤◌, ◌==◌, Bool, true, false, not, ◌&&◌, ◌||◌, min, max, bit_and, bit_or, bit_xor, ap, arith, sym, ◌∙◌, add-zero}
use Rattle.std.proofs.lemmas.Bool.Decides.{nat_tests}
use Rattle.std.proofs.lemmas.Nat.{pow_pos, shr-shr, shr_split}
use Rattle.std.proofs.lemmas.Nat.Bits.{bit_at_and, bit_at_or, bit_at_xor, bit_at-lt, bit_at_lowest, bit_at-suc, bit_at-zero, bit_at_ones, bit_at_above, bit_at_cat_low, bit_at_cat_high, same_from_bits_below}
use Rattle.std.proofs.Math.Nat.{pow-succ'}
use Rattle.std.specs.Int.{bit_at}
use Rattle.four_state.specs.Masks.{is_set}

-- exclusive or of two tests
abbrev pub differ : Bool → Bool → Bool
differ false q = q
differ true q = not q

both_digits : (m n : ℕ) → m < 2 → n < 2 → (min m n == 1) ≡ ((m == 1) && (n == 1))
both_digits m n p q = grind (arith, nat_tests)

either_digit : (m n : ℕ) → m < 2 → n < 2 → (max m n == 1) ≡ ((m == 1) || (n == 1))
either_digit m n p q = grind (arith, nat_tests)

one_digit : (m n : ℕ) → m < 2 → n < 2 → ((m + n) % 2 == 1) ≡ differ (m == 1) (n == 1)
one_digit m n p q = grind (arith, nat_tests)

pub is_set-and : (a b i : ℕ) → is_set (bit_and a b) i ≡ (is_set a i && is_set b i)
unfolding is_set
is_set-and a b i = ap (λ n. n == 1) (bit_at_and a b i) ∙ both_digits _ _ (bit_at-lt a i) (bit_at-lt b i)

pub is_set-or : (a b i : ℕ) → is_set (bit_or a b) i ≡ (is_set a i || is_set b i)
unfolding is_set
is_set-or a b i = ap (λ n. n == 1) (bit_at_or a b i) ∙ either_digit _ _ (bit_at-lt a i) (bit_at-lt b i)

pub is_set-xor : (a b i : ℕ) → is_set (bit_xor a b) i ≡ differ (is_set a i) (is_set b i)
unfolding is_set
is_set-xor a b i = ap (λ n. n == 1) (bit_at_xor a b i) ∙ one_digit _ _ (bit_at-lt a i) (bit_at-lt b i)

pub is_set-zero : (i : ℕ) → is_set 0 i ≡ false
unfolding is_set
is_set-zero i = ap (λ n. n == 1) (bit_at-zero i)

pub is_set-lowest : (a : ℕ) → is_set a 0 ≡ (a % 2 == 1)
unfolding is_set
is_set-lowest a = ap (λ n. n == 1) (bit_at_lowest a)

pub is_set-suc : (a i : ℕ) → is_set a (suc i) ≡ is_set (a / 2) i
unfolding is_set
is_set-suc a i = ap (λ n. n == 1) (bit_at-suc a i)

even_complement : (p n : ℕ) → n < 2 * p → ((2 * p - 1 - n) % 2 == 1) ≡ not (n % 2 == 1)
even_complement p n h = grind (arith, nat_tests)

half_complement : (p n : ℕ) → n < 2 * p → (2 * p - 1 - n) / 2 ≡ p - 1 - n / 2
half_complement p n h = omega arith

-- the places below w that a number lacks
pub is_set-not : (w a i : ℕ) → a < 2 ^ w → i < w → is_set (2 ^ w - 1 - a) i ≡ not (is_set a i)
is_set-not zero a i p q = absurd (omega arith)
is_set-not (suc w) a zero p q =
    is_set-lowest _ ∙ ap (λ n. (n - 1 - a) % 2 == 1) (pow-succ' 2 w) ∙ even_complement (2 ^ w) a (rw pow-succ' at p) ∙ ap not (sym (is_set-lowest a))
is_set-not (suc w) a (suc i) p q =
    is_set-suc _ i ∙ ap (λ n. is_set n i) (ap (λ n. (n - 1 - a) / 2) (pow-succ' 2 w) ∙ half_complement (2 ^ w) a (rw pow-succ' at p)) ∙ is_set-not w (a / 2) i (let h : a < 2 * 2 ^ w = rw pow-succ' at p in omega arith) (omega arith) ∙ ap not (sym (is_set-suc a i))

pub is_set-ones : (w i : ℕ) → i < w → is_set (2 ^ w - 1) i ≡ true
unfolding is_set
is_set-ones w i h = ap (λ n. n == 1) (bit_at_ones w i h)

pub is_set-above : (a w i : ℕ) → a < 2 ^ w → w ≤ i → is_set a i ≡ false
unfolding is_set
is_set-above a w i p q = ap (λ n. n == 1) (bit_at_above a w i p q)

pub is_set-shl_below : (a k i : ℕ) → i < k → is_set (a * 2 ^ k) i ≡ false
unfolding is_set
is_set-shl_below a k i h = ap (λ n. n / 2 ^ i % 2 == 1) (sym (add-zero (a * 2 ^ k))) ∙ ap (λ n. n == 1) (bit_at_cat_low a k 0 i h ∙ bit_at-zero i)

pub is_set-shl_from : (a k i : ℕ) → k ≤ i → is_set (a * 2 ^ k) i ≡ is_set a (i - k)
unfolding is_set
is_set-shl_from a k i h = ap (λ n. n / 2 ^ i % 2 == 1) (sym (add-zero (a * 2 ^ k))) ∙ ap (λ n. n == 1) (bit_at_cat_high a k 0 i (pow_pos k) h)

pub is_set-shr : (a k i : ℕ) → is_set (a / 2 ^ k) i ≡ is_set a (k + i)
unfolding is_set
is_set-shr a k i = ap (λ n. n % 2 == 1) (shr-shr a k i)

pub is_set-mod : (a w i : ℕ) → i < w → is_set (a % 2 ^ w) i ≡ is_set a i
unfolding is_set
is_set-mod a w i h = ap (λ n. n == 1) (sym (bit_at_cat_low (a / 2 ^ w) w (a % 2 ^ w) i h) ∙ ap (λ n. bit_at n i) (shr_split a w))

same_digit : (m n : ℕ) → m < 2 → n < 2 → (m == 1) ≡ (n == 1) → m ≡ n
same_digit m n p q e = grind (arith, nat_tests)

-- two numbers with the same places are equal
pub same_from_places : (w a b : ℕ) → a < 2 ^ w → b < 2 ^ w → ((i : ℕ) → i < w → is_set a i ≡ is_set b i) → a ≡ b
unfolding is_set
same_from_places w a b p q h = same_from_bits_below w a b p q (λ i l. same_digit _ _ (bit_at-lt a i) (bit_at-lt b i) (h i l))
