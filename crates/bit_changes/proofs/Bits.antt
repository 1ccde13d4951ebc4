-- The masks of partly known vectors, place by place.
use Rattle.std.proofs.Common.{◌≡◌, ℕ, zero, suc, ◌+◌, ◌-◌, ◌*◌, ◌/◌, ◌%◌, ◌^◌, ◌<◌, ◌≤◌, ◌==◌, Bool, true, false, not, ◌&&◌, ◌||◌, if◌then◌else◌, List, [], ◌∷◌, map, length, get_or, Option, Some, None, is_some, bit_and, bit_or, bit_xor, refl, ap, arith, sym, ◌∙◌, lt_of_le_of_lt, lt_of_lt_of_le}
use Rattle.std.proofs.lemmas.Bool.Decides.{nat_tests}
use Rattle.std.proofs.lemmas.List.{length-map, get_or-map}
use Rattle.std.proofs.lemmas.Nat.{and_le_l, or_lt}
use Rattle.four_state.specs.declared.bit.Bit.{Bit}
use Rattle.four_state.specs.declared.bit.Bit.TheVariants.{Zero, One, X, Z}
use Rattle.four_state.specs.Masks.{bit_in_masks, bits_of_masks, is_set, is_one_or_z, is_strange, mask_of}
use Rattle.four_state.specs.Vector.{is_one, is_zero, same_bit}
use Rattle.four_state.proofs.Places.{differ, is_set-lowest, is_set-suc, is_set-and, is_set-or, is_set-xor, is_set-not, is_set-ones}
use Rattle.four_state.proofs.Lifted.{get_or-bits_of_masks, is_set-mask_of}
use Rattle.known_state.specs.Join.{join_bit, joined}
use Rattle.known_state.specs.Partly.{filled}
use Rattle.known_state.specs.Stored.{mask_of_sure}
use Rattle.known_state.proofs.Bits.{get_or-filled, get_or-joined}
use Rattle.bit_changes.specs.Changes.{bit_may_be, or_zero, surely_differ, surely_falls, surely_rises, surely_same, may_fall, may_rise}

test_of_digit : (p : Bool) (m : ℕ) → (((if p then 1 else 0) + 2 * m) % 2 == 1) ≡ p
test_of_digit false m = grind (arith, nat_tests)
test_of_digit true m = grind (arith, nat_tests)

half_of_digit : (p : Bool) (m : ℕ) → ((if p then 1 else 0) + 2 * m) / 2 ≡ m
half_of_digit false m = omega arith
half_of_digit true m = omega arith

-- a place of the mask of what is sure
pub sure_at : (ps : List (Option Bit)) (i : ℕ) → i < length ps → is_set (mask_of_sure ps) i ≡ is_some (get_or ps i None)
unfolding mask_of_sure
sure_at [] i h = absurd (omega arith)
sure_at (p ∷ ps) zero h = is_set-lowest _ ∙ test_of_digit (is_some p) (mask_of_sure ps)
sure_at (p ∷ ps) (suc i) h =
    is_set-suc _ i ∙ ap (λ n. is_set n i) (half_of_digit (is_some p) (mask_of_sure ps)) ∙ sure_at ps i (omega arith)

-- a place of a mask of a vector with 0 where it is not sure
pub mask_at : (f : Bit → Bool) (ps : List (Option Bit)) (i : ℕ) → i < length ps → is_set (mask_of f (filled Zero ps)) i ≡ f (or_zero (get_or ps i None))
mask_at f ps i l =
    is_set-mask_of f (filled Zero ps) i X (rw length-map l) ∙ ap f (get_or-filled Zero ps i l)

-- the places below a width that a mask lacks
pub lacking : (w n i : ℕ) → w ≤ 128 → n < 2 ^ 128 → i < w → is_set (bit_and (2 ^ w - 1) (2 ^ 128 - 1 - n)) i ≡ not (is_set n i)
lacking w n i small below l = rw (is_set-and, is_set-ones w i l, is_set-not 128 n i below (omega arith)) refl

pub unlike_bits : (b c : Bit) → (differ (is_one_or_z b) (is_one_or_z c) || differ (is_strange b) (is_strange c)) ≡ not (same_bit b c)
unlike_bits Zero Zero = refl
unlike_bits Zero One = refl
unlike_bits Zero X = refl
unlike_bits Zero Z = refl
unlike_bits One Zero = refl
unlike_bits One One = refl
unlike_bits One X = refl
unlike_bits One Z = refl
unlike_bits X Zero = refl
unlike_bits X One = refl
unlike_bits X X = refl
unlike_bits X Z = refl
unlike_bits Z Zero = refl
unlike_bits Z One = refl
unlike_bits Z X = refl
unlike_bits Z Z = refl

-- where two masks of two vectors differ
pub unlike_at : (ps qs : List (Option Bit)) (i : ℕ) → i < length ps → i < length qs
    → is_set (bit_or (bit_xor (mask_of is_one_or_z (filled Zero ps)) (mask_of is_one_or_z (filled Zero qs))) (bit_xor (mask_of is_strange (filled Zero ps)) (mask_of is_strange (filled Zero qs)))) i ≡ not (same_bit (or_zero (get_or ps i None)) (or_zero (get_or qs i None)))
unlike_at ps qs i l m =
    rw (is_set-or, is_set-xor, is_set-xor, mask_at is_one_or_z ps i l, mask_at is_one_or_z qs i m, mask_at is_strange ps i l, mask_at is_strange qs i m) (unlike_bits (or_zero (get_or ps i None)) (or_zero (get_or qs i None)))

pub differ_if : (p q : Option Bit) → ((is_some p && is_some q) && not (same_bit (or_zero p) (or_zero q))) ≡ surely_differ p q
differ_if None q = refl
differ_if (Some b) None = refl
differ_if (Some b) (Some c) = refl

not_not : (p : Bool) → not (not p) ≡ p
not_not false = refl
not_not true = refl

pub unsteady_if : (p q : Option Bit) → (not (is_some p && is_some q) || not (same_bit (or_zero p) (or_zero q))) ≡ not (surely_same p q)
unsteady_if None q = refl
unsteady_if (Some b) None = refl
unsteady_if (Some b) (Some c) = refl

-- ---- toggles

pub zero_if : (p : Option Bit) → is_zero (or_zero p) ≡ bit_may_be p Zero
zero_if None = refl
zero_if (Some Zero) = refl
zero_if (Some One) = refl
zero_if (Some X) = refl
zero_if (Some Z) = refl

pub one_if : (p : Option Bit) → is_one (or_zero p) ≡ surely_same p (Some One)
one_if None = refl
one_if (Some b) = refl

sure_zero : (p : Option Bit) → (is_some p && bit_may_be p Zero) ≡ surely_same p (Some Zero)
sure_zero None = refl
sure_zero (Some Zero) = refl
sure_zero (Some One) = refl
sure_zero (Some X) = refl
sure_zero (Some Z) = refl

maybe_one : (p : Option Bit) → (surely_same p (Some One) || not (is_some p)) ≡ bit_may_be p One
maybe_one None = refl
maybe_one (Some Zero) = refl
maybe_one (Some One) = refl
maybe_one (Some X) = refl
maybe_one (Some Z) = refl

pub rises_if : (p q : Option Bit) → ((is_some p && bit_may_be p Zero) && surely_same q (Some One)) ≡ surely_rises p q
rises_if p q = ap (λ b. b && surely_same q (Some One)) (sure_zero p)

pub falls_if : (p q : Option Bit) → (surely_same p (Some One) && (is_some q && bit_may_be q Zero)) ≡ surely_falls p q
falls_if p q = ap (λ b. surely_same p (Some One) && b) (sure_zero q)

pub may_rise_if : (p q : Option Bit) → (bit_may_be p Zero && (surely_same q (Some One) || not (is_some q))) ≡ may_rise p q
may_rise_if p q = ap (λ b. bit_may_be p Zero && b) (maybe_one q)

pub may_fall_if : (p q : Option Bit) → ((surely_same p (Some One) || not (is_some p)) && bit_may_be q Zero) ≡ may_fall p q
may_fall_if p q = ap (λ b. b && bit_may_be q Zero) (maybe_one p)

-- ---- bits that are taken out

flipped : (p : Option Bit) (m : Bool) → join_bit p (Some (bit_in_masks (differ (is_one_or_z (or_zero p)) m) (is_strange (or_zero p)))) ≡ (if m then None else p)
flipped None false = refl
flipped None true = refl
flipped (Some Zero) false = refl
flipped (Some Zero) true = refl
flipped (Some One) false = refl
flipped (Some One) true = refl
flipped (Some X) false = refl
flipped (Some X) true = refl
flipped (Some Z) false = refl
flipped (Some Z) true = refl

length-masks : (w a b : ℕ) → length (bits_of_masks w a b) ≡ w
unfolding bits_of_masks
length-masks zero a b = refl
length-masks (suc w) a b = ap suc (length-masks w (a / 2) (b / 2))

pub out_at : (ps : List (Option Bit)) (mask i : ℕ) → i < length ps
    → get_or (joined ps (map Some (bits_of_masks (length ps) (bit_xor (mask_of is_one_or_z (filled Zero ps)) mask) (mask_of is_strange (filled Zero ps))))) i None ≡ (if is_set mask i then None else get_or ps i None)
out_at ps mask i l =
    get_or-joined ps _ i (sym (length-map _ Some ∙ length-masks (length ps) _ _)) l ∙ ap (join_bit (get_or ps i None)) (get_or-map Some _ i X None (rw length-masks l) ∙ ap Some (get_or-bits_of_masks (length ps) _ _ i X l ∙ rw (is_set-xor, mask_at is_one_or_z ps i l, mask_at is_strange ps i l) refl)) ∙ flipped (get_or ps i None) (is_set mask i)

-- ---- bits that are taken from another vector

picked : (x y m : Bool) → ((x && not m) || (y && m)) ≡ (if m then y else x)
picked false false false = refl
picked false false true = refl
picked false true false = refl
picked false true true = refl
picked true false false = refl
picked true false true = refl
picked true true false = refl
picked true true true = refl

own_bit : (p : Option Bit) → (if not (is_some p) then None else Some (bit_in_masks (is_one_or_z (or_zero p)) (is_strange (or_zero p)))) ≡ p
own_bit None = refl
own_bit (Some Zero) = refl
own_bit (Some One) = refl
own_bit (Some X) = refl
own_bit (Some Z) = refl

put_bit : (p q : Option Bit) (m : Bool) → (if not (if m then is_some q else is_some p) then None else Some (bit_in_masks (if m then is_one_or_z (or_zero q) else is_one_or_z (or_zero p)) (if m then is_strange (or_zero q) else is_strange (or_zero p)))) ≡ (if m then q else p)
put_bit p q false = own_bit p
put_bit p q true = own_bit q

-- the masks of two vectors, one at the places of a mask and the other elsewhere
abbrev pub mixed : ℕ → ℕ → ℕ → ℕ
mixed a b mask = bit_or (bit_and a (2 ^ 128 - 1 - mask)) (bit_and b mask)

mixed_at : (a b mask i : ℕ) → mask < 2 ^ 128 → i < 128 → is_set (mixed a b mask) i ≡ (if is_set mask i then is_set b i else is_set a i)
mixed_at a b mask i below l =
    rw (is_set-or, is_set-and, is_set-and, is_set-not 128 mask i below l) (picked (is_set a i) (is_set b i) (is_set mask i))

pub mixed_inside : (w a b mask : ℕ) → a < 2 ^ w → b < 2 ^ w → mixed a b mask < 2 ^ w
mixed_inside w a b mask k h = or_lt w _ _ (lt_of_le_of_lt (and_le_l a (2 ^ 128 - 1 - mask)) k) (lt_of_le_of_lt (and_le_l b mask) h)

pub put_at : (ps qs : List (Option Bit)) (mask i : ℕ) → length ps ≤ 128 → mask < 2 ^ 128 → i < length ps → i < length qs
    → (if not (is_set (mixed (mask_of_sure ps) (mask_of_sure qs) mask) i) then None else Some (bit_in_masks (is_set (mixed (mask_of is_one_or_z (filled Zero ps)) (mask_of is_one_or_z (filled Zero qs)) mask) i) (is_set (mixed (mask_of is_strange (filled Zero ps)) (mask_of is_strange (filled Zero qs)) mask) i))) ≡ (if is_set mask i then get_or qs i None else get_or ps i None)
put_at ps qs mask i small below l k =
    let high : i < 128 = lt_of_lt_of_le l small in
    rw (mixed_at (mask_of_sure ps) (mask_of_sure qs) mask i below high, mixed_at (mask_of is_one_or_z (filled Zero ps)) (mask_of is_one_or_z (filled Zero qs)) mask i below high, mixed_at (mask_of is_strange (filled Zero ps)) (mask_of is_strange (filled Zero qs)) mask i below high, sure_at ps i l, sure_at qs i k, mask_at is_one_or_z ps i l, mask_at is_one_or_z qs i k, mask_at is_strange ps i l, mask_at is_strange qs i k) (put_bit (get_or ps i None) (get_or qs i None) (is_set mask i))

-- a vector of which the bits outside of the mixed mask are taken out
pub merged_at : (w : ℕ) (ps qs : List (Option Bit)) (mask i : ℕ) → w ≡ length ps → length ps ≤ 128 → mask < 2 ^ 128 → mask_of_sure ps < 2 ^ 128 → mask_of_sure qs < 2 ^ 128 → i < length ps → i < length qs
    → (if is_set (bit_and (2 ^ w - 1) (2 ^ 128 - 1 - mixed (mask_of_sure ps) (mask_of_sure qs) mask)) i then None else get_or (map Some (bits_of_masks w (mixed (mask_of is_one_or_z (filled Zero ps)) (mask_of is_one_or_z (filled Zero qs)) mask) (mixed (mask_of is_strange (filled Zero ps)) (mask_of is_strange (filled Zero qs)) mask))) i None) ≡ (if is_set mask i then get_or qs i None else get_or ps i None)
merged_at w ps qs mask i e small below first second l k =
    let j : i < w = rw e l in
    rw (lacking w (mixed (mask_of_sure ps) (mask_of_sure qs) mask) i (rw e small) (mixed_inside 128 (mask_of_sure ps) (mask_of_sure qs) mask first second) j, get_or-map Some (bits_of_masks w (mixed (mask_of is_one_or_z (filled Zero ps)) (mask_of is_one_or_z (filled Zero qs)) mask) (mixed (mask_of is_strange (filled Zero ps)) (mask_of is_strange (filled Zero qs)) mask)) i X None (rw length-masks j), get_or-bits_of_masks w (mixed (mask_of is_one_or_z (filled Zero ps)) (mask_of is_one_or_z (filled Zero qs)) mask) (mixed (mask_of is_strange (filled Zero ps)) (mask_of is_strange (filled Zero qs)) mask) i X j) (put_at ps qs mask i small below l k)
