-- Numbers and whole numbers of bits, and the bits of a number cut to a width.
use Rattle.std.proofs.Common.{◌≡◌, ℕ, zero, suc, pred, ◌+◌, ◌-◌, ◌*◌, ◌/◌, ◌%◌, ◌^◌, ◌<◌, ◌≤◌, ◌≢◌, ◌==◌, nat_lt, nat_abs, Bool, true, false, not, ◌&&◌, cond, if◌then◌else◌, List, [], ◌∷◌, ◌++◌, map, length, replicate, get_or, ext_get_or, mul_left_comm, mul_assoc, mul-add, add-mul, mul_comm, suc-mul, add-zero, div-add-mod', bit_and, ℤ, pos, negsuc, ◌+ℤ◌, ◌-ℤ◌, ◌*ℤ◌, neg_ℤ, refl, ap, arith, sym, ◌∙◌, ⊎_elim}
use Rattle.std.proofs.lemmas.Bool.Decides.{nat_tests}
use Rattle.std.proofs.lemmas.Bool.{and_parts, cond-true, cond-false, ne_eqb, eqb-true, eqb-false, not-true, and_cases, not-false, and_right, eq-eqb, cases_Bool}
use Rattle.std.proofs.lemmas.List.Folds.{list_all-append}
use Rattle.std.proofs.lemmas.Int.{ints}
use Rattle.std.proofs.Math.Nat.{pow-succ'}
use Rattle.std.proofs.lemmas.Nat.{pow-add, pow_pos}
use Rattle.four_state.specs.Vector.{Bit, Zero, One, X, Z, is_known, is_one, all_known, bit_of, top}
use Rattle.four_state.specs.Arithmetic.{not_bit, natural, low_bits, whole, cut, if_known, is_natural_zero, arithmetic, division, relation}
use Rattle.four_state.specs.Masks.{bits_of_masks, bit_in_masks, mask_of, is_set}
use Rattle.std.specs.Prelude.{int_div, int_rem, int_lt, int_le}
use mathlib.Core.Bool.{beq}
use Rattle.four_state.proofs.Places.{differ, is_set-and, is_set-zero, is_set-ones, is_set-lowest, is_set-suc, is_set-mod}
use Rattle.four_state.proofs.Lifted.{bits_are}

-- the number of the 1 bits is their mask
pub natural_is : (bs : List Bit) → natural bs ≡ mask_of is_one bs
unfolding mask_of
natural_is [] = refl
natural_is (b ∷ bs) = ap (λ n. (if is_one b then 1 else 0) + 2 * n) (natural_is bs)

length-low_bits : (w n : ℕ) → length (low_bits w n) ≡ w
length-low_bits zero n = refl
length-low_bits (suc w) n = ap suc (length-low_bits w (n / 2))

get_or-low_bits : (w n i : ℕ) → i < w → get_or (low_bits w n) i X ≡ bit_of (is_set n i)
get_or-low_bits zero n i h = absurd (omega arith)
get_or-low_bits (suc w) n zero h = ap bit_of (sym (is_set-lowest n))
get_or-low_bits (suc w) n (suc i) h = get_or-low_bits w (n / 2) i (omega arith) ∙ ap bit_of (sym (is_set-suc n i))

only_one : (p : Bool) → bit_in_masks p false ≡ bit_of p
only_one false = refl
only_one true = refl

and_true : (p : Bool) → (p && true) ≡ p
and_true false = refl
and_true true = refl

-- a number cut by a mask
pub cut_by_mask : (w n : ℕ) → bits_of_masks w (bit_and n (2 ^ w - 1)) 0 ≡ low_bits w n
cut_by_mask w n =
    bits_are w _ 0 (low_bits w n) (sym (length-low_bits w n)) (λ i l.
    rw (is_set-and, is_set-ones w i l, is_set-zero, and_true) (only_one (is_set n i) ∙ sym (get_or-low_bits w n i l)))

-- what is above 128 places is above the width
pub low_bits-mod : (w n : ℕ) → w ≤ 128 → low_bits w (n % 2 ^ 128) ≡ low_bits w n
low_bits-mod w n small =
    ext_get_or X (low_bits w (n % 2 ^ 128)) (low_bits w n) (length-low_bits w _ ∙ sym (length-low_bits w n)) (λ i l. let k : i < w = rw length-low_bits at l in
    get_or-low_bits w _ i k ∙ ap bit_of (is_set-mod n 128 i (omega arith)) ∙ sym (get_or-low_bits w n i k))

same_parity : (m n q : ℕ) → n ≡ m + 2 * q → (m % 2 == 1) ≡ (n % 2 == 1)
same_parity m n q e = ap (λ d. d == 1) (omega arith)

-- numbers that differ by a multiple of the width's power are cut to the same bits
cut_same : (w m n k : ℕ) → n ≡ m + k * 2 ^ w → low_bits w m ≡ low_bits w n
cut_same zero m n k e = refl
cut_same (suc w) m n k e =
    let q : k * 2 ^ suc w ≡ 2 * (k * 2 ^ w) = ap (λ x. k * x) (pow-succ' 2 w) ∙ mul_left_comm k 2 (2 ^ w) in
    ap (λ p. bit_of p ∷ low_bits w (m / 2)) (same_parity m n (k * 2 ^ w) (omega arith)) ∙ ap (λ bs. bit_of (n % 2 == 1) ∷ bs) (cut_same w (m / 2) (n / 2) k (omega arith))

not_parity : (m n q : ℕ) → n + m + 1 ≡ 2 * q → not (m % 2 == 1) ≡ (n % 2 == 1)
not_parity m n q e = grind (arith, nat_tests)

not_of : (p : Bool) → not_bit (bit_of p) ≡ bit_of (not p)
not_of false = refl
not_of true = refl

-- and those that add up to one less than a multiple are cut to opposite bits
cut_opposite : (w m n k : ℕ) → n + m + 1 ≡ k * 2 ^ w → map not_bit (low_bits w m) ≡ low_bits w n
cut_opposite zero m n k e = refl
cut_opposite (suc w) m n k e =
    let q : k * 2 ^ suc w ≡ 2 * (k * 2 ^ w) = ap (λ x. k * x) (pow-succ' 2 w) ∙ mul_left_comm k 2 (2 ^ w) in
    ap (λ b. b ∷ map not_bit (low_bits w (m / 2))) (not_of (m % 2 == 1) ∙ ap bit_of (not_parity m n (k * 2 ^ w) (omega arith))) ∙ ap (λ bs. bit_of (n % 2 == 1) ∷ bs) (cut_opposite w (m / 2) (n / 2) k (omega arith))

-- so a whole number is cut to the bits of a number that differs from it by a multiple of the width's power
pub cut_is : (w n k : ℕ) (z : ℤ) → z +ℤ pos (k * 2 ^ w) ≡ pos n → cut w z ≡ low_bits w n
cut_is w n k (pos m) e = cut_same w m n k (omega (arith, ints))
cut_is w n k (negsuc m) e = cut_opposite w m n k (omega (arith, ints))

-- a number and the one that is to be taken from 0
cut_negative : (w n p k : ℕ) → n + p ≡ k * 2 ^ w → cut w (neg_ℤ (pos p)) ≡ low_bits w n
cut_negative w n p k e = cut_is w n k (neg_ℤ (pos p)) (omega (arith, ints))

-- the power of 128 is a multiple of the width's
wide_power : (w : ℕ) → w ≤ 128 → 2 ^ (128 - w) * 2 ^ w ≡ 2 ^ 128
wide_power w small = let e : 128 - w + w ≡ 128 = omega arith in sym (pow-add 2 (128 - w) w) ∙ ap (λ n. 2 ^ n) e

-- what a word has taken from 0 is cut as the whole number
pub cut_wrapped : (w n p : ℕ) → w ≤ 128 → (n + p) % 2 ^ 128 ≡ 0 → cut w (neg_ℤ (pos p)) ≡ low_bits w n
cut_wrapped w n p small e =
    let k : n + p ≡ (n + p) / 2 ^ 128 * 2 ^ 128 = sym (div-add-mod' (n + p) (2 ^ 128)) ∙ ap (λ r. (n + p) / 2 ^ 128 * 2 ^ 128 + r) e ∙ add-zero _ in
    cut_negative w n p ((n + p) / 2 ^ 128 * 2 ^ (128 - w)) (k ∙ ap (λ x. (n + p) / 2 ^ 128 * x) (sym (wide_power w small)) ∙ sym (mul_assoc ((n + p) / 2 ^ 128) (2 ^ (128 - w)) (2 ^ w)))

-- ---- whole numbers

complement_digit : (b : Bit) (m n p : ℕ) → is_known b ≡ true → m + n + 1 ≡ p → (if is_one (not_bit b) then 1 else 0) + 2 * m + ((if is_one b then 1 else 0) + 2 * n) + 1 ≡ 2 * p
complement_digit Zero m n p h e = omega arith
complement_digit One m n p h e = omega arith
complement_digit X m n p h e = cc
complement_digit Z m n p h e = cc

-- a number and that of the opposite bits
complement : (bs : List Bit) → all_known bs ≡ true → natural (map not_bit bs) + natural bs + 1 ≡ 2 ^ length bs
complement [] h = refl
complement (b ∷ bs) h =
    let parts = and_parts (is_known b) (all_known bs) h in
    complement_digit b (natural (map not_bit bs)) (natural bs) (2 ^ length bs) parts.0 (complement bs parts.1) ∙ sym (pow-succ' 2 (length bs))

-- a whole number by the vector's number: the same, or below 0
pub data IsWhole (w n : ℕ) : Bool → ℤ → Type 0 where
  positive : IsWhole w n false (pos n)
  negative : (m : ℕ) → m + n + 1 ≡ 2 ^ w → IsWhole w n true (negsuc m)

whole_by : (sign : Bool) (bs : List Bit) → all_known bs ≡ true → IsWhole (length bs) (natural bs) sign (if sign then negsuc (natural (map not_bit bs)) else pos (natural bs))
whole_by false bs h = positive
whole_by true bs h = negative (natural (map not_bit bs)) (complement bs h)

pub whole_is : (signed : Bool) (bs : List Bit) → all_known bs ≡ true → IsWhole (length bs) (natural bs) (signed && is_one (top bs)) (whole signed bs)
whole_is signed bs h = whole_by (signed && is_one (top bs)) bs h

-- sums, differences and products of whole numbers are cut as those of the vectors' numbers
pub cut_sum : (w m n : ℕ) (p q : Bool) (x y : ℤ) → IsWhole w m p x → IsWhole w n q y → cut w (x +ℤ y) ≡ low_bits w (m + n)
cut_sum w m n p q x y positive positive = refl
cut_sum w m n p q x y positive (negative k e) = cut_is w (m + n) 1 (pos m +ℤ negsuc k) (omega (arith, ints))
cut_sum w m n p q x y (negative k e) positive = cut_is w (m + n) 1 (negsuc k +ℤ pos n) (omega (arith, ints))
cut_sum w m n p q x y (negative j d) (negative k e) = cut_is w (m + n) 2 (negsuc j +ℤ negsuc k) (omega (arith, ints))

-- the difference of words of 128 places, as it wraps
pub cut_difference : (w m n : ℕ) (p q : Bool) (x y : ℤ) → w ≤ 128 → n ≤ 2 ^ 128 → IsWhole w m p x → IsWhole w n q y → cut w (x -ℤ y) ≡ low_bits w (m + (2 ^ 128 - n))
cut_difference w m n p q x y small below positive positive =
    cut_is w (m + (2 ^ 128 - n)) (2 ^ (128 - w)) (pos m -ℤ pos n) (omega (arith, ints, wide_power w small))
cut_difference w m n p q x y small below positive (negative k e) =
    let parts : pred (2 ^ (128 - w)) * 2 ^ w + 2 ^ w ≡ 2 ^ 128 = sym (suc-mul (pred (2 ^ (128 - w))) (2 ^ w)) ∙ ap (λ z. z * 2 ^ w) (let q : suc (pred (2 ^ (128 - w))) ≡ 2 ^ (128 - w) = omega (arith, pow_pos (128 - w)) in q) ∙ wide_power w small in
    cut_is w (m + (2 ^ 128 - n)) (pred (2 ^ (128 - w))) (pos m -ℤ negsuc k) (omega (arith, ints, parts))
cut_difference w m n p q x y small below (negative k e) positive =
    let parts : suc (2 ^ (128 - w)) * 2 ^ w ≡ 2 ^ 128 + 2 ^ w = suc-mul (2 ^ (128 - w)) (2 ^ w) ∙ ap (λ z. z + 2 ^ w) (wide_power w small) in
    cut_is w (m + (2 ^ 128 - n)) (suc (2 ^ (128 - w))) (negsuc k -ℤ pos n) (omega (arith, ints, parts))
cut_difference w m n p q x y small below (negative j d) (negative k e) =
    cut_is w (m + (2 ^ 128 - n)) (2 ^ (128 - w)) (negsuc j -ℤ negsuc k) (omega (arith, ints, wide_power w small))

pub cut_product : (w m n : ℕ) (p q : Bool) (x y : ℤ) → IsWhole w m p x → IsWhole w n q y → cut w (x *ℤ y) ≡ low_bits w (m * n)
cut_product w m n p q x y positive positive = refl
cut_product w m n p q x y positive (negative k e) =
    cut_negative w (m * n) (m * suc k) m (sym (mul-add m n (suc k)) ∙ ap (λ z. m * z) (let q : n + suc k ≡ 2 ^ w = omega arith in q))
cut_product w m n p q x y (negative k e) positive =
    cut_negative w (m * n) (suc k * n) n (sym (add-mul m (suc k) n) ∙ ap (λ z. z * n) (let q : m + suc k ≡ 2 ^ w = omega arith in q) ∙ mul_comm (2 ^ w) n)
cut_product w m n p q x y (negative j d) (negative k e) =
    let across : m * 2 ^ w ≡ m * n + m * suc k = ap (λ z. m * z) (let q : 2 ^ w ≡ n + suc k = omega arith in q) ∙ mul-add m n (suc k) in
    let down : suc k * 2 ^ w ≡ suc k * suc j + suc k * m = ap (λ z. suc k * z) (let q : 2 ^ w ≡ suc j + m = omega arith in q) ∙ mul-add (suc k) (suc j) m in
    cut_same w (suc j * suc k) (suc j * suc k + m * 2 ^ w) m refl ∙ sym (cut_same w (m * n) (suc j * suc k + m * 2 ^ w) (suc k) (omega (arith, across, down, mul_comm (suc k) (suc j), mul_comm (suc k) m)))

-- what the operators give of known operands
module _ (signed : Bool) (bs cs : List Bit) (known : all_known (bs ++ cs) ≡ true) (same : length bs ≡ length cs) (small : length bs ≤ 128) where
  both : (all_known bs ≡ true) × (all_known cs ≡ true)
  both = and_parts (all_known bs) (all_known cs) (sym (list_all-append is_known bs cs) ∙ known)

  left_whole : IsWhole (length bs) (natural bs) (signed && is_one (top bs)) (whole signed bs)
  left_whole = whole_is signed bs both.0

  right_whole : IsWhole (length bs) (natural cs) (signed && is_one (top cs)) (whole signed cs)
  right_whole = rw same (whole_is signed cs both.1)

  arithmetic_known : (f : ℤ → ℤ → ℤ) → arithmetic f signed bs cs ≡ cut (length bs) (f (whole signed bs) (whole signed cs))
  arithmetic_known f = cond-true (all_known (bs ++ cs)) _ _ known

  pub sum_law : low_bits (length bs) ((natural bs + natural cs) % 2 ^ 128) ≡ arithmetic ◌+ℤ◌ signed bs cs
  sum_law = low_bits-mod (length bs) _ small ∙ sym (arithmetic_known ◌+ℤ◌ ∙ cut_sum (length bs) _ _ _ _ _ _ left_whole right_whole)

  pub product_law : low_bits (length bs) ((natural bs * natural cs) % 2 ^ 128) ≡ arithmetic ◌*ℤ◌ signed bs cs
  product_law = low_bits-mod (length bs) _ small ∙ sym (arithmetic_known ◌*ℤ◌ ∙ cut_product (length bs) _ _ _ _ _ _ left_whole right_whole)

  pub difference_law : natural cs ≤ 2 ^ 128 → low_bits (length bs) ((natural bs + (2 ^ 128 - natural cs)) % 2 ^ 128) ≡ arithmetic ◌-ℤ◌ signed bs cs
  difference_law below = low_bits-mod (length bs) _ small ∙ sym (arithmetic_known ◌-ℤ◌ ∙ cut_difference (length bs) _ _ _ _ _ _ small below left_whole right_whole)

pub unknown_law : (f : ℤ → ℤ → ℤ) (signed : Bool) (bs cs : List Bit) → all_known (bs ++ cs) ≡ false → replicate (length bs) X ≡ arithmetic f signed bs cs
unknown_law f signed bs cs h = sym (cond-false (all_known (bs ++ cs)) _ _ h)

pub negative_law : (n : ℕ) (bs : List Bit) → length bs ≤ 128 → all_known bs ≡ true → (n + natural bs) % 2 ^ 128 ≡ 0 → low_bits (length bs) n ≡ if_known bs (length bs) (cut (length bs) (pos 0 -ℤ whole false bs))
negative_law n bs small known e =
    let zero_minus : pos 0 -ℤ pos (natural bs) ≡ neg_ℤ (pos (natural bs)) = omega (arith, ints) in
    sym (cond-true (all_known bs) _ (replicate (length bs) X) known ∙ ap (cut (length bs)) zero_minus ∙ cut_wrapped (length bs) n (natural bs) small e)

magnitude_of : (w n : ℕ) (sign : Bool) (z : ℤ) → IsWhole w n sign z → sign ≡ true → 2 ^ w - 1 - n + 1 ≡ nat_abs z
magnitude_of w n sign z positive h = cc
magnitude_of w n sign z (negative m e) h = omega (arith, e)

pub magnitude_law : (signed : Bool) (bs : List Bit) → all_known bs ≡ true → (signed && is_one (top bs)) ≡ true → 2 ^ length bs - 1 - natural bs + 1 ≡ nat_abs (whole signed bs)
magnitude_law signed bs known h = magnitude_of (length bs) (natural bs) (signed && is_one (top bs)) (whole signed bs) (whole_is signed bs known) h

quotient_of : (w m n : ℕ) (p q : Bool) (x y : ℤ) (r : ℕ) → w ≤ 128 → IsWhole w m p x → IsWhole w n q y → (differ p q ≡ false → r ≡ nat_abs x / nat_abs y) → (differ p q ≡ true → (r + nat_abs x / nat_abs y) % 2 ^ 128 ≡ 0) → low_bits w r ≡ cut w (int_div x y)
quotient_of w m n p q x y r small positive positive f g = ap (low_bits w) (f refl)
quotient_of w m n p q x y r small positive (negative k e) f g = sym (cut_wrapped w r (m / suc k) small (g refl))
quotient_of w m n p q x y r small (negative k e) positive f g = sym (cut_wrapped w r (suc k / n) small (g refl))
quotient_of w m n p q x y r small (negative j d) (negative k e) f g = ap (low_bits w) (f refl)

remainder_of : (w m : ℕ) (p : Bool) (x y : ℤ) (r : ℕ) → w ≤ 128 → IsWhole w m p x → (p ≡ false → r ≡ nat_abs x % nat_abs y) → (p ≡ true → (r + nat_abs x % nat_abs y) % 2 ^ 128 ≡ 0) → low_bits w r ≡ cut w (int_rem x y)
remainder_of w m p x y r small positive f g = ap (low_bits w) (f refl)
remainder_of w m p x y r small (negative k e) f g = sym (cut_wrapped w r (suc k % nat_abs y) small (g refl))

-- a divisor is 0 where its number is
zero_whole : (w n : ℕ) (q : Bool) (y : ℤ) → IsWhole w n q y → n ≢ 0 → is_natural_zero y ≡ false
zero_whole w n q y positive h = ne_eqb n 0 h
zero_whole w n q y (negative k e) h = refl

pub nonzero_magnitude : (signed : Bool) (bs : List Bit) → all_known bs ≡ true → natural bs ≢ 0 → nat_abs (whole signed bs) ≢ 0
nonzero_magnitude signed bs known h = abs_of (length bs) (natural bs) (signed && is_one (top bs)) (whole signed bs) (whole_is signed bs known) h
  where
    abs_of : (w n : ℕ) (q : Bool) (y : ℤ) → IsWhole w n q y → n ≢ 0 → nat_abs y ≢ 0
    abs_of w n q y positive h = h
    abs_of w n q y (negative k e) h = λ z. omega (arith, z)

pub top_counts : (bs : List Bit) → is_one (top bs) ≡ true → natural bs ≢ 0
top_counts [] h = cc
top_counts (b ∷ []) h = λ e. let f : (if true then 1 else 0) + 2 * 0 ≡ 0 = rw h at e in omega (arith, f)
top_counts (b ∷ c ∷ cs) h = λ e. top_counts (c ∷ cs) h (omega arith)

positive_zero : (signed : Bool) (bs : List Bit) → natural bs ≡ 0 → is_natural_zero (whole signed bs) ≡ true
positive_zero signed bs e =
    ⊎_elim (λ h. absurd (top_counts bs h e)) (λ h. ap is_natural_zero (cond-false (signed && is_one (top bs)) (negsuc (natural (map not_bit bs))) (pos (natural bs)) (and_right signed (is_one (top bs)) h)) ∙ eq-eqb (natural bs) 0 e) (cases_Bool (is_one (top bs)))

same_either_way : {A : Type 0} (p : Bool) (x : A) → cond p x x ≡ x
same_either_way false x = refl
same_either_way true x = refl

-- a quotient or a remainder of operands that have none
pub undivided_law : (f : ℤ → ℤ → ℤ) (signed : Bool) (bs cs : List Bit) → (all_known (bs ++ cs) && not (natural cs == 0)) ≡ false → replicate (length bs) X ≡ division f signed bs cs
undivided_law f signed bs cs h =
    ⊎_elim
    (λ strange. sym (ap (cond (is_natural_zero (whole signed cs)) (replicate (length bs) X)) (sym (unknown_law f signed bs cs strange)) ∙ same_either_way (is_natural_zero (whole signed cs)) (replicate (length bs) X)))
    (λ zero. sym (cond-true (is_natural_zero (whole signed cs)) (replicate (length bs) X) (arithmetic f signed bs cs) (positive_zero signed cs (eqb-true (natural cs) 0 (not-false (natural cs == 0) zero)))))
    (and_cases (all_known (bs ++ cs)) (not (natural cs == 0)) h)

module _ (signed : Bool) (bs cs : List Bit) (can : (all_known (bs ++ cs) && not (natural cs == 0)) ≡ true) (same : length bs ≡ length cs) (small : length bs ≤ 128) where
  parts : (all_known (bs ++ cs) ≡ true) × (not (natural cs == 0) ≡ true)
  parts = and_parts (all_known (bs ++ cs)) (not (natural cs == 0)) can

  division_known : (f : ℤ → ℤ → ℤ) → division f signed bs cs ≡ cut (length bs) (f (whole signed bs) (whole signed cs))
  division_known f =
      cond-false (is_natural_zero (whole signed cs)) (replicate (length bs) X) (arithmetic f signed bs cs) (zero_whole (length bs) (natural cs) (signed && is_one (top cs)) (whole signed cs) (right_whole signed bs cs parts.0 same small) (eqb-false (natural cs) 0 (not-true (natural cs == 0) parts.1))) ∙ arithmetic_known signed bs cs parts.0 same small f

  pub quotient_law : (r : ℕ) → (differ (signed && is_one (top bs)) (signed && is_one (top cs)) ≡ false → r ≡ nat_abs (whole signed bs) / nat_abs (whole signed cs)) → (differ (signed && is_one (top bs)) (signed && is_one (top cs)) ≡ true → (r + nat_abs (whole signed bs) / nat_abs (whole signed cs)) % 2 ^ 128 ≡ 0) → low_bits (length bs) r ≡ division int_div signed bs cs
  quotient_law r f g =
      quotient_of (length bs) (natural bs) (natural cs) _ _ (whole signed bs) (whole signed cs) r small (left_whole signed bs cs parts.0 same small) (right_whole signed bs cs parts.0 same small) f g ∙ sym (division_known int_div)

  pub remainder_law : (r : ℕ) → ((signed && is_one (top bs)) ≡ false → r ≡ nat_abs (whole signed bs) % nat_abs (whole signed cs)) → ((signed && is_one (top bs)) ≡ true → (r + nat_abs (whole signed bs) % nat_abs (whole signed cs)) % 2 ^ 128 ≡ 0) → low_bits (length bs) r ≡ division int_rem signed bs cs
  remainder_law r f g =
      remainder_of (length bs) (natural bs) _ (whole signed bs) (whole signed cs) r small (left_whole signed bs cs parts.0 same small) f g ∙ sym (division_known int_rem)

-- `!=` on two tests
pub differ_is : (p q : Bool) → not (beq p q) ≡ differ p q
differ_is false false = refl
differ_is false true = refl
differ_is true false = refl
differ_is true true = refl

-- ---- relations

less_of : (w m n : ℕ) (p q : Bool) (x y : ℤ) → IsWhole w m p x → IsWhole w n q y → beq p q ≡ true → int_lt x y ≡ nat_lt m n
less_of w m n p q x y positive positive h = refl
less_of w m n p q x y positive (negative k e) h = cc
less_of w m n p q x y (negative k e) positive h = cc
less_of w m n p q x y (negative j d) (negative k e) h = grind (arith, nat_tests, d, e)

pub less_law : (signed : Bool) (bs cs : List Bit) → all_known (bs ++ cs) ≡ true → length bs ≡ length cs → beq (signed && is_one (top bs)) (signed && is_one (top cs)) ≡ true → bit_of (nat_lt (natural bs) (natural cs)) ∷ [] ≡ relation int_lt signed bs cs
less_law signed bs cs known same h =
    let parts = and_parts (all_known bs) (all_known cs) (sym (list_all-append is_known bs cs) ∙ known) in
    sym (cond-true (all_known (bs ++ cs)) _ _ known ∙ ap (λ t. bit_of t ∷ []) (less_of (length bs) (natural bs) (natural cs) _ _ (whole signed bs) (whole signed cs) (whole_is signed bs parts.0) (rw same (whole_is signed cs parts.1)) h))

-- at most is not above
most_of : (x y : ℤ) → int_le x y ≡ not (int_lt y x)
most_of (pos a) (pos b) = grind (arith, nat_tests)
most_of (pos a) (negsuc b) = refl
most_of (negsuc a) (pos b) = refl
most_of (negsuc a) (negsuc b) = grind (arith, nat_tests)

opposite : (known t u : Bool) (b : Bit) → b ∷ [] ≡ (if known then bit_of t ∷ [] else X ∷ []) → u ≡ not t → not_bit b ∷ [] ≡ (if known then bit_of u ∷ [] else X ∷ [])
opposite false t u b h e = ap (λ c. not_bit c ∷ []) (let i : b ≡ X = cc in i)
opposite true t u b h e = ap (λ c. not_bit c ∷ []) (let i : b ≡ bit_of t = cc in i) ∙ ap (λ c. c ∷ []) (not_of t) ∙ ap (λ v. bit_of v ∷ []) (sym e)

and_swapped : (p q : Bool) → (p && q) ≡ (q && p)
and_swapped false false = refl
and_swapped false true = refl
and_swapped true false = refl
and_swapped true true = refl

pub at_most_law : (signed : Bool) (bs cs : List Bit) (b : Bit) → b ∷ [] ≡ relation int_lt signed cs bs → not_bit b ∷ [] ≡ relation int_le signed bs cs
at_most_law signed bs cs b h =
    let swapped = list_all-append is_known cs bs ∙ and_swapped (all_known cs) (all_known bs) ∙ sym (list_all-append is_known bs cs) in
    opposite (all_known (bs ++ cs)) (int_lt (whole signed cs) (whole signed bs)) (int_le (whole signed bs) (whole signed cs)) b (h ∙ ap (λ k. if k then bit_of (int_lt (whole signed cs) (whole signed bs)) ∷ [] else X ∷ []) swapped) (most_of (whole signed bs) (whole signed cs))
