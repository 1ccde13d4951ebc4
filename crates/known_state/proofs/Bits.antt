-- Bits that are sure or not, place by place: how they are whole, filled and joined.
use Rattle.std.proofs.Common.{◌≡◌, ℕ, zero, suc, ◌+◌, ◌-◌, ◌*◌, ◌/◌, ◌%◌, ◌^◌, ◌<◌, ◌≤◌, ◌==◌, Bool, true, false, not, ◌&&◌, ◌||◌, if◌then◌else◌, List, [], ◌∷◌, map, length, replicate, get_or, Option, Some, None, is_some, bit_and, bit_or, bit_xor, refl, ap, arith, sym, ◌∙◌, ⊎_elim, lt_of_le_of_lt, lt_of_lt_of_le, subst}
use Rattle.std.proofs.lemmas.Bool.Decides.{nat_tests}
use Rattle.std.proofs.lemmas.Bool.{cases_lt}
use Rattle.std.proofs.lemmas.List.{length-map, get_or-map, length-replicate, get_or-replicate, get_or_past}
use Rattle.std.proofs.lemmas.Nat.{and_le_l, and_le_r, or_lt, xor_lt}
use Rattle.std.proofs.Math.Pow.{pow_mono, ones_lt}
use Rattle.std.specs.Option.{unwrap_or}
use Rattle.four_state.specs.declared.bit.Bit.{Bit}
use Rattle.four_state.specs.declared.bit.Bit.TheVariants.{Zero, One, X, Z}
use Rattle.four_state.specs.Vector.{Vector, same_bit}
use Rattle.four_state.specs.Masks.{bits_of_masks, bit_in_masks, mask_of, is_set, is_one_or_z, is_strange}
use Rattle.four_state.proofs.Places.{differ, is_set-lowest, is_set-suc, is_set-and, is_set-or, is_set-xor, is_set-not, is_set-ones, is_set-zero, is_set-above}
use Rattle.four_state.proofs.Lifted.{is_set-mask_of, mask_below, bits_are}
use Rattle.four_state.proofs.PartLaws.{masks_at}
use Rattle.known_state.specs.Partly.{filled, filled_from, are_sure, with_blame, whole_of}
use Rattle.known_state.specs.Stored.{sure_bits, mask_of_sure}
use Rattle.known_state.specs.Join.{join_bit, joined}
use Rattle.known_state.proofs.Masked.{length-sure_bits, get_or-sure_bits, sure_bits_are}

-- ---- whole and unknown

pub sure_bits-all : (bs : List Bit) → sure_bits bs (2 ^ length bs - 1) ≡ map Some bs
sure_bits-all bs =
    sure_bits_are bs (2 ^ length bs - 1) (map Some bs) (sym (length-map bs Some)) (λ i l. rw (is_set-ones (length bs) i l) (sym (get_or-map Some bs i X None l)))

pub are_sure-whole : (bs : List Bit) → are_sure (map Some bs) ≡ true
are_sure-whole [] = refl
are_sure-whole (b ∷ bs) = are_sure-whole bs

pub sure_bits-none : (w : ℕ) (b : Bit) → sure_bits (replicate w b) 0 ≡ replicate w None
sure_bits-none w b =
    sure_bits_are (replicate w b) 0 (replicate w None) (length-replicate w b ∙ sym (length-replicate w None)) (λ i l. let k : i < w = rw length-replicate at l in rw is_set-zero (sym (get_or-replicate w i None None k)))

pub are_sure-unknown : (w : ℕ) → 1 ≤ w → are_sure (replicate w None) ≡ false
are_sure-unknown zero h = absurd (omega arith)
are_sure-unknown (suc w) h = refl

-- ---- filled

pub get_or-filled : (b : Bit) (ps : List (Option Bit)) (i : ℕ) → i < length ps → get_or (filled b ps) i X ≡ unwrap_or (get_or ps i None) b
get_or-filled b ps i l = get_or-map (λ p. unwrap_or p b) ps i None X l

pub length-filled_from : (ps : List (Option Bit)) (cs : List Bit) → length (filled_from ps cs) ≡ length ps
length-filled_from [] cs = refl
length-filled_from (p ∷ ps) [] = ap suc (length-filled_from ps [])
length-filled_from (p ∷ ps) (c ∷ cs) = ap suc (length-filled_from ps cs)

pub get_or-filled_from : (ps : List (Option Bit)) (cs : List Bit) (i : ℕ) → i < length ps → get_or (filled_from ps cs) i X ≡ unwrap_or (get_or ps i None) (get_or cs i Zero)
get_or-filled_from [] cs i h = absurd (omega arith)
get_or-filled_from (p ∷ ps) [] zero h = refl
get_or-filled_from (p ∷ ps) [] (suc i) h = get_or-filled_from ps [] i (omega arith)
get_or-filled_from (p ∷ ps) (c ∷ cs) zero h = refl
get_or-filled_from (p ∷ ps) (c ∷ cs) (suc i) h = get_or-filled_from ps cs i (omega arith)

pub filled_from-replicate : (b : Bit) (ps : List (Option Bit)) → filled_from ps (replicate (length ps) b) ≡ filled b ps
filled_from-replicate b [] = refl
filled_from-replicate b (p ∷ ps) = ap (λ bs. unwrap_or p b ∷ bs) (filled_from-replicate b ps)

-- a vector's bit is in its masks, and past its end these have none
masks_or : (cs : List Bit) (i : ℕ) → bit_in_masks (is_set (mask_of is_one_or_z cs) i) (is_set (mask_of is_strange cs) i) ≡ get_or cs i Zero
masks_or cs i =
    ⊎_elim (λ l. masks_at cs i Zero l) (λ l. rw (is_set-above (mask_of is_one_or_z cs) (length cs) i (mask_below is_one_or_z cs) l, is_set-above (mask_of is_strange cs) (length cs) i (mask_below is_strange cs) l) (sym (get_or_past cs i Zero l))) (cases_lt i (length cs))

and_false : (p : Bool) → (p && false) ≡ false
and_false false = refl
and_false true = refl

and_true : (p : Bool) → (p && true) ≡ p
and_true false = refl
and_true true = refl

or_false : (p : Bool) → (p || false) ≡ p
or_false false = refl
or_false true = refl

blank_or : (s o t p q : Bool) → unwrap_or (if s then Some (bit_in_masks o t) else None) Zero ≡ bit_in_masks o t → bit_in_masks (o || (p && not s)) (t || (q && not s)) ≡ unwrap_or (if s then Some (bit_in_masks o t) else None) (bit_in_masks p q)
blank_or true o t p q h = rw (and_false p, and_false q, or_false o, or_false t)
blank_or false false false p q h = rw (and_true p, and_true q)
blank_or false true false p q h = cc
blank_or false false true p q h = cc
blank_or false true true p q h = cc

blank_at : (s : Bool) (b c : Bit) (o t p q : Bool) → bit_in_masks o t ≡ b → bit_in_masks p q ≡ c → unwrap_or (if s then Some b else None) Zero ≡ b → bit_in_masks (o || (p && not s)) (t || (q && not s)) ≡ unwrap_or (if s then Some b else None) c
blank_at s b c o t p q e f h =
    blank_or s o t p q (rw e h) ∙ ap (λ a. unwrap_or (if s then Some a else None) (bit_in_masks p q)) e ∙ ap (unwrap_or (if s then Some b else None)) f

module _ (bs cs : List Bit) (sure : ℕ) (blank : filled Zero (sure_bits bs sure) ≡ bs) (below : sure < 2 ^ length bs) (small : length bs ≤ 128) where
  unsure_at : (i : ℕ) → i < length bs → is_set (bit_and (2 ^ length bs - 1) (2 ^ 128 - 1 - sure)) i ≡ not (is_set sure i)
  unsure_at i l = rw (is_set-and, is_set-ones (length bs) i l, is_set-not 128 sure i (lt_of_lt_of_le below (pow_mono small)) (omega arith))

  pub unsure_inside : (n m : ℕ) → n < 2 ^ length bs → bit_or n (bit_and m (bit_and (2 ^ length bs - 1) (2 ^ 128 - 1 - sure))) < 2 ^ length bs
  unsure_inside n m h =
      or_lt (length bs) n _ h (lt_of_le_of_lt (and_le_r m (bit_and (2 ^ length bs - 1) (2 ^ 128 - 1 - sure))) (lt_of_le_of_lt (and_le_l (2 ^ length bs - 1) (2 ^ 128 - 1 - sure)) (ones_lt (length bs))))

  -- the masks of a vector that is 0 where it is not sure, with those of another one there
  pub filled_masks : bits_of_masks (length bs) (bit_or (mask_of is_one_or_z bs) (bit_and (mask_of is_one_or_z cs) (bit_and (2 ^ length bs - 1) (2 ^ 128 - 1 - sure)))) (bit_or (mask_of is_strange bs) (bit_and (mask_of is_strange cs) (bit_and (2 ^ length bs - 1) (2 ^ 128 - 1 - sure)))) ≡ filled_from (sure_bits bs sure) cs
  filled_masks =
      bits_are (length bs) _ _ (filled_from (sure_bits bs sure) cs) (sym (length-sure_bits bs sure) ∙ sym (length-filled_from (sure_bits bs sure) cs)) (λ i l. let k : i < length (sure_bits bs sure) = rw length-sure_bits l in
      rw (is_set-or (mask_of is_one_or_z bs), is_set-or (mask_of is_strange bs), is_set-and (mask_of is_one_or_z cs), is_set-and (mask_of is_strange cs), unsure_at i l, get_or-filled_from (sure_bits bs sure) cs i k, get_or-sure_bits bs sure i l) (blank_at (is_set sure i) (get_or bs i X) (get_or cs i Zero) (is_set (mask_of is_one_or_z bs) i) (is_set (mask_of is_strange bs) i) (is_set (mask_of is_one_or_z cs) i) (is_set (mask_of is_strange cs) i) (masks_at bs i X l) (masks_or cs i) (ap (λ p. unwrap_or p Zero) (sym (get_or-sure_bits bs sure i l)) ∙ sym (get_or-filled Zero (sure_bits bs sure) i k) ∙ ap (λ ds. get_or ds i X) blank)))

-- ---- joined

pub length-joined : (ps qs : List (Option Bit)) → length ps ≡ length qs → length (joined ps qs) ≡ length ps
length-joined [] qs e = refl
length-joined (p ∷ ps) [] e = cc
length-joined (p ∷ ps) (q ∷ qs) e = ap suc (length-joined ps qs (cc))

pub get_or-joined : (ps qs : List (Option Bit)) (i : ℕ) → length ps ≡ length qs → i < length ps → get_or (joined ps qs) i None ≡ join_bit (get_or ps i None) (get_or qs i None)
get_or-joined [] qs i e h = absurd (omega arith)
get_or-joined (p ∷ ps) [] i e h = cc
get_or-joined (p ∷ ps) (q ∷ qs) zero e h = refl
get_or-joined (p ∷ ps) (q ∷ qs) (suc i) e h = get_or-joined ps qs i (cc) (omega arith)

test_of_digit : (p : Bool) (m : ℕ) → (((if p then 1 else 0) + 2 * m) % 2 == 1) ≡ p
test_of_digit false m = grind (arith, nat_tests)
test_of_digit true m = grind (arith, nat_tests)

half_of_digit : (p : Bool) (m : ℕ) → ((if p then 1 else 0) + 2 * m) / 2 ≡ m
half_of_digit false m = omega arith
half_of_digit true m = omega arith

is_set-mask_of_sure : (ps : List (Option Bit)) (i : ℕ) → i < length ps → is_set (mask_of_sure ps) i ≡ is_some (get_or ps i None)
unfolding mask_of_sure
is_set-mask_of_sure [] i h = absurd (omega arith)
is_set-mask_of_sure (p ∷ ps) zero h = is_set-lowest _ ∙ test_of_digit (is_some p) (mask_of_sure ps)
is_set-mask_of_sure (p ∷ ps) (suc i) h =
    is_set-suc _ i ∙ ap (λ n. is_set n i) (half_of_digit (is_some p) (mask_of_sure ps)) ∙ is_set-mask_of_sure ps i (omega arith)

differing : (b c : Bit) → (differ (is_one_or_z b) (is_one_or_z c) || differ (is_strange b) (is_strange c)) ≡ not (same_bit b c)
differing Zero Zero = refl
differing Zero One = refl
differing Zero X = refl
differing Zero Z = refl
differing One Zero = refl
differing One One = refl
differing One X = refl
differing One Z = refl
differing X Zero = refl
differing X One = refl
differing X X = refl
differing X Z = refl
differing Z Zero = refl
differing Z One = refl
differing Z X = refl
differing Z Z = refl

not_not : (p : Bool) → not (not p) ≡ p
not_not false = refl
not_not true = refl

join_at : (p q : Option Bit) → (if ((is_some p && is_some q) && not (not (same_bit (unwrap_or p Zero) (unwrap_or q Zero)))) then Some (unwrap_or p Zero) else None) ≡ join_bit p q
join_at None q = refl
join_at (Some b) None = refl
join_at (Some b) (Some c) = ap (λ t. if t then Some b else None) (not_not (same_bit b c))

module _ (ps qs : List (Option Bit)) (same : length ps ≡ length qs) (small : length ps ≤ 128) where
  left_at : (test : Bit → Bool) (i : ℕ) → i < length ps → is_set (mask_of test (filled Zero ps)) i ≡ test (unwrap_or (get_or ps i None) Zero)
  left_at test i l =
      is_set-mask_of test (filled Zero ps) i X (rw length-map l) ∙ ap test (get_or-filled Zero ps i l)

  right_at : (test : Bit → Bool) (i : ℕ) → i < length ps → is_set (mask_of test (filled Zero qs)) i ≡ test (unwrap_or (get_or qs i None) Zero)
  right_at test i l =
      is_set-mask_of test (filled Zero qs) i X (rw length-map (rw (← same) l)) ∙ ap test (get_or-filled Zero qs i (rw (← same) l))

  left_below : (test : Bit → Bool) → mask_of test (filled Zero ps) < 2 ^ length ps
  left_below test = subst (λ n. mask_of test (filled Zero ps) < 2 ^ n) (length-map ps (λ p. unwrap_or p Zero)) (mask_below test (filled Zero ps))

  right_below : (test : Bit → Bool) → mask_of test (filled Zero qs) < 2 ^ length ps
  right_below test = subst (λ n. mask_of test (filled Zero qs) < 2 ^ n) (length-map qs (λ p. unwrap_or p Zero) ∙ sym same) (mask_below test (filled Zero qs))

  different : ℕ
  different = bit_or (bit_xor (mask_of is_one_or_z (filled Zero ps)) (mask_of is_one_or_z (filled Zero qs))) (bit_xor (mask_of is_strange (filled Zero ps)) (mask_of is_strange (filled Zero qs)))

  different_below : different < 2 ^ 128
  unfolding different
  different_below = lt_of_lt_of_le (or_lt (length ps) _ _ (xor_lt (length ps) _ _ (left_below is_one_or_z) (right_below is_one_or_z)) (xor_lt (length ps) _ _ (left_below is_strange) (right_below is_strange))) (pow_mono small)

  different_at : (i : ℕ) → i < length ps → is_set different i ≡ not (same_bit (unwrap_or (get_or ps i None) Zero) (unwrap_or (get_or qs i None) Zero))
  unfolding different
  different_at i l =
      rw (is_set-or, is_set-xor (mask_of is_one_or_z (filled Zero ps)), is_set-xor (mask_of is_strange (filled Zero ps)), left_at is_one_or_z i l, left_at is_strange i l, right_at is_one_or_z i l, right_at is_strange i l) (differing (unwrap_or (get_or ps i None) Zero) (unwrap_or (get_or qs i None) Zero))

  -- a join by masks: sure where both are sure and do not differ
  pub joined_masks : sure_bits (filled Zero ps) (bit_and (bit_and (mask_of_sure ps) (mask_of_sure qs)) (2 ^ 128 - 1 - bit_or (bit_xor (mask_of is_one_or_z (filled Zero ps)) (mask_of is_one_or_z (filled Zero qs))) (bit_xor (mask_of is_strange (filled Zero ps)) (mask_of is_strange (filled Zero qs))))) ≡ joined ps qs
  unfolding different
  joined_masks =
      sure_bits_are (filled Zero ps) _ (joined ps qs) (length-map ps _ ∙ sym (length-joined ps qs same)) (λ i l. let k : i < length ps = rw length-map at l in
      rw (is_set-and (bit_and (mask_of_sure ps) (mask_of_sure qs)) (2 ^ 128 - 1 - different) i, is_set-and (mask_of_sure ps), is_set-not 128 different i different_below (omega arith), different_at i k, is_set-mask_of_sure ps i k, is_set-mask_of_sure qs i (rw (← same) k), get_or-filled Zero ps i k, get_or-joined ps qs i same k) (join_at (get_or ps i None) (get_or qs i None)))

-- ---- what the calls give

pub whole_value : (v : Vector) → with_blame (sure_bits v.bits (2 ^ length v.bits - 1)) v.signed 0 ≡ whole_of v
whole_value v = ap (λ ps. with_blame ps v.signed 0) (sure_bits-all v.bits) ∙ rw (are_sure-whole v.bits)

pub unknown_value : (w : ℕ) (signed : Bool) (thing : ℕ) → 1 ≤ w → with_blame (sure_bits (replicate w Zero) 0) signed thing ≡ record { bits = replicate w None; signed = signed; blame = thing }
unknown_value w signed thing h = ap (λ ps. with_blame ps signed thing) (sure_bits-none w Zero) ∙ rw (are_sure-unknown w h)
