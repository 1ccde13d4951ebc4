-- A number as a vector of the width of an index, and which numbers an index cannot be.
use Rattle.std.proofs.Common.{◌≡◌, ℕ, zero, suc, ◌+◌, ◌*◌, ◌/◌, ◌%◌, ◌^◌, ◌<◌, ◌≤◌, ◌==◌, Bool, true, false, if◌then◌else◌, [], ◌∷◌, length, get_or, bit_and, bit_xor, Option, Some, None, is_some, refl, sym, ap, ap₂, ◌∙◌, ⊎_elim, arith}
use Rattle.std.specs.Option.{unwrap_or}
use Rattle.std.proofs.lemmas.Bool.{and_parts, cases_lt, cases_Bool, false≢true, true≢false}
use Rattle.std.proofs.lemmas.List.{get_or-map, get_or_past}
use Rattle.std.proofs.Math.Nat.{add-mul, div-eq_of_lt-le, div-mul-le_self, lt-div-mul-add, mod-eq_of_lt}
use Rattle.std.proofs.Math.Pow.{pow-lt}
use Rattle.four_state.specs.declared.bit.Bit.{Bit}
use Rattle.four_state.specs.declared.bit.Bit.TheVariants.{Zero, X}
use Rattle.four_state.specs.Vector.{Vector, bit_of, extend, fit}
use Rattle.four_state.specs.Parts.{extended_vector}
use Rattle.four_state.specs.Arithmetic.{low_bits}
use Rattle.four_state.specs.Masks.{bit_in_masks, bits_of_masks, is_one_or_z, is_set, mask_of}
use Rattle.four_state.proofs.Places.{is_set-and, is_set-lowest, is_set-suc, is_set-xor, is_set-zero, differ}
use Rattle.four_state.proofs.Lifted.{is_set-mask_of}
use Rattle.known_state.specs.Partly.{allows_bits, filled}
use Rattle.known_state.specs.Stored.{mask_of_sure}
use Rattle.known_state.proofs.Allowed.{length-filled, place_allowed}
use Rattle.body_replay.specs.KnownBits.{KnownBits}

-- ---- the vector of a number

number_bits : (w n : ℕ) → bits_of_masks w n 0 ≡ low_bits w n
unfolding bits_of_masks
number_bits zero n = refl
number_bits (suc w) n = ap₂ (λ b bs. b ∷ bs) (go (n % 2 == 1)) (number_bits w (n / 2))
  where
    go : (t : Bool) → bit_in_masks t false ≡ bit_of t
    go true = refl
    go false = refl

fit_number : (w v n : ℕ) → w ≤ v → fit w Zero (low_bits v n) ≡ low_bits w n
fit_number zero v n l = refl
fit_number (suc w) zero n l = absurd (omega (arith, l))
fit_number (suc w) (suc v) n l = ap (λ bs. bit_of (n % 2 == 1) ∷ bs) (fit_number w v (n / 2) (omega (arith, l)))

-- a number of v bits, extended or cut to w bits
pub extended_number : (w v n : ℕ) → w ≤ v → extend w false (bits_of_masks v n 0) ≡ low_bits w n
extended_number w v n l = ap (fit w Zero) (number_bits v n) ∙ fit_number w v n l

-- the number as a vector of w bits
pub number_of : (v m : Vector) (w n : ℕ) (signed : Bool) → w ≤ 128 → m ≡ record { bits = bits_of_masks 128 n 0; signed = false } → v ≡ extended_vector w signed m → v ≡ record { bits = low_bits w n; signed = signed }
number_of v m w n signed l made extended =
    extended ∙ ap (extended_vector w signed) made ∙ ap (λ bs. record { bits = bs; signed = signed }) (extended_number w 128 n l)

-- ---- a number with a wrong bit

pub bit_of_number : (w n i : ℕ) → i < w → get_or (low_bits w n) i X ≡ bit_of (is_set n i)
bit_of_number zero n i h = absurd (omega (arith, h))
bit_of_number (suc w) n zero h = ap bit_of (sym (is_set-lowest n))
bit_of_number (suc w) n (suc i) h = bit_of_number w (n / 2) i (omega (arith, h)) ∙ ap bit_of (sym (is_set-suc n i))

half_test : (p : Bool) (m n : ℕ) → n ≡ (if p then 1 else 0) + 2 * m → n / 2 ≡ m
half_test true m n e = omega (arith, e)
half_test false m n e = omega (arith, e)

lowest_test : (p : Bool) (m n : ℕ) → n ≡ (if p then 1 else 0) + 2 * m → (n % 2 == 1) ≡ p
lowest_test true m n e = let odd : n % 2 ≡ 1 = omega (arith, e) in ap (λ k. k == 1) odd
lowest_test false m n e = let even : n % 2 ≡ 0 = omega (arith, e) in ap (λ k. k == 1) even

-- the places of the mask are those of the sure bits
pub sure_at : (ps : KnownBits) (i : ℕ) → is_set (mask_of_sure ps) i ≡ is_some (get_or ps i None)
unfolding mask_of_sure
sure_at [] i = is_set-zero i
sure_at (p ∷ ps) zero = is_set-lowest _ ∙ lowest_test (is_some p) (mask_of_sure ps) _ refl
sure_at (p ∷ ps) (suc i) = is_set-suc _ i ∙ ap (λ n. is_set n i) (half_test (is_some p) (mask_of_sure ps) _ refl) ∙ sure_at ps i

same_place : (n j p : ℕ) → j / 2 ^ p ≡ n / 2 ^ p → is_set j p ≡ is_set n p
unfolding is_set
same_place n j p e = ap (λ m. m % 2 == 1) e

pub in_list : (ps : KnownBits) (p : ℕ) (b : Bit) → get_or ps p None ≡ Some b → p < length ps
in_list ps p b e = ⊎_elim (λ l. l) (λ l. let past : None ≡ Some b = sym (get_or_past ps p None l) ∙ e in cc) (cases_lt p (length ps))

pub digit_back : (t : Bool) → is_one_or_z (bit_of t) ≡ t
digit_back true = refl
digit_back false = refl

pub differ_self : (t : Bool) → differ t t ≡ false
differ_self true = refl
differ_self false = refl

-- where a number has a wrong bit, so has each number with the same bits from there up
pub wrong_bit : (ps : KnownBits) (n j p : ℕ) → is_set (bit_and (bit_xor n (mask_of is_one_or_z (filled Zero ps))) (mask_of_sure ps)) p ≡ true → j / 2 ^ p ≡ n / 2 ^ p → allows_bits ps (low_bits (length ps) j) ≡ false
wrong_bit ps n j p set same = go (get_or ps p None) refl
  where
    ones : ℕ
    ones = mask_of is_one_or_z (filled Zero ps)

    parts : (is_set (bit_xor n (mask_of is_one_or_z (filled Zero ps))) p ≡ true) × (is_set (mask_of_sure ps) p ≡ true)
    parts = and_parts (is_set (bit_xor n (mask_of is_one_or_z (filled Zero ps))) p) (is_set (mask_of_sure ps) p) (sym (is_set-and (bit_xor n (mask_of is_one_or_z (filled Zero ps))) (mask_of_sure ps) p) ∙ set)

    differs : (b : Bit) → get_or ps p None ≡ Some b → differ (is_set n p) (is_one_or_z b) ≡ true
    differs b e =
        let l : p < length ps = in_list ps p b e in
        let here : is_set (mask_of is_one_or_z (filled Zero ps)) p ≡ is_one_or_z b =
        is_set-mask_of is_one_or_z (filled Zero ps) p X (omega (arith, l, length-filled Zero ps)) ∙ ap is_one_or_z (get_or-map (λ o. unwrap_or o Zero) ps p None X l ∙ ap (λ o. unwrap_or o Zero) e) in
        ap (differ (is_set n p)) (sym here) ∙ sym (is_set-xor n (mask_of is_one_or_z (filled Zero ps)) p) ∙ parts.0

    allowed : (b : Bit) → get_or ps p None ≡ Some b → allows_bits ps (low_bits (length ps) j) ≡ true → ⊥
    allowed b e h =
        let l : p < length ps = in_list ps p b e in
        let bit : bit_of (is_set n p) ≡ b = ap bit_of (sym (same_place n j p same)) ∙ sym (bit_of_number (length ps) j p l) ∙ place_allowed ps (low_bits (length ps) j) p b h l e in
        let one : is_one_or_z b ≡ is_set n p = ap is_one_or_z (sym bit) ∙ digit_back (is_set n p) in
        true≢false (sym (differs b e) ∙ ap (differ (is_set n p)) one ∙ differ_self (is_set n p))

    go : (o : Option Bit) → get_or ps p None ≡ o → allows_bits ps (low_bits (length ps) j) ≡ false
    go None e = absurd (false≢true (sym (sure_at ps p ∙ ap is_some e) ∙ parts.1))
    go (Some b) e = ⊎_elim (λ h. absurd (allowed b e h)) (λ h. h) (cases_Bool (allows_bits ps (low_bits (length ps) j)))

-- ---- the numbers that a search passes over

-- a number has its highest place
pub highest_set : (n p : ℕ) → 2 ^ p ≤ n → n < 2 * 2 ^ p → is_set n p ≡ true
unfolding is_set
highest_set n p low high =
    let one : n / 2 ^ p ≡ 1 = div-eq_of_lt-le (2 ^ p) (omega (arith, low)) (omega (arith, high)) in
    ap (λ m. m % 2 == 1) one

-- the numbers from n up to the next multiple of a unit
pub same_block : (n j u : ℕ) → n ≤ j → j < (n / u + 1) * u → j / u ≡ n / u
same_block n j u low high = div-eq_of_lt-le u (omega (arith, low, div-mul-le_self n u)) high

-- the next multiple comes later
pub next_later : (n u : ℕ) → 0 < u → n < (n / u + 1) * u
next_later n u h = omega (arith, lt-div-mul-add {a = n} {b = u} h, add-mul (n / u) 1 u)

-- `1 << p` as the code computes it
pub unit_is : (p : ℕ) → p < 128 → 1 * 2 ^ p % 340282366920938463463374607431768211456 ≡ 2 ^ p
unit_is p l =
    let small : 2 ^ p < 2 ^ 128 = pow-lt l in
    let one : 1 * 2 ^ p ≡ 2 ^ p = omega arith in
    ap (λ n. n % 340282366920938463463374607431768211456) one ∙ mod-eq_of_lt small
