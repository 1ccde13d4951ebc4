-- Masks that are moved, and parts that are laid over a vector.
use Rattle.std.proofs.Common.{◌≡◌, ℕ, zero, suc, ◌+◌, ◌-◌, ◌*◌, ◌/◌, ◌%◌, ◌^◌, ◌<◌, ◌≤◌, nat_lt, Bool, true, false, not, ◌&&◌, ◌||◌, if◌then◌else◌, List, [], ◌∷◌, ◌++◌, map, length, replicate, get_or, ext_get_or, bit_and, bit_or, Some, None, Option, ℤ, pos, negsuc, ◌+ℤ◌, ◌-ℤ◌, neg_ℤ, nat_abs, refl, ap, arith, sym, ◌∙◌, ⊎_elim, lt_of_lt_of_le, lt_of_le_of_lt}
use Rattle.std.proofs.lemmas.Bool.{cases_lt, ltb-true, ltb-false, cond-true}
use Rattle.std.proofs.lemmas.List.{get_or_past, length-replicate, get_or-replicate, length-append, get_or_append_left, get_or-append_right}
use Rattle.std.proofs.lemmas.Int.{ints}
use Rattle.std.specs.Int.Signed.{lt_z}
use Rattle.four_state.specs.Vector.{Bit, Zero, One, X, Z, top, fit, all_known}
use Rattle.four_state.specs.Arithmetic.{natural, shift_left, shift_right}
use Rattle.four_state.specs.Parts.{within, bit_or_part, option_bit, bits_from, bits_with}
use Rattle.four_state.specs.Masks.{bits_of_masks, bits_over, mask_of, bit_in_masks, is_set, is_set_at, is_one_or_z, is_strange}
use Rattle.four_state.proofs.Places.{is_set-zero, is_set-and, is_set-or, is_set-not, is_set-mod, is_set-shl_below, is_set-shl_from, is_set-shr, is_set-ones, is_set-above, is_set-lowest, is_set-suc}
use Rattle.std.proofs.lemmas.Nat.{or_lt, and_le_r, shl_below}
use Rattle.std.proofs.Math.Nat.{mod-le}
use Rattle.std.specs.List.{range_with_len}
use Rattle.std.proofs.lemmas.List.FromFn.{length-map-range_with_len, get_or-map-range_with_len}
use Rattle.std.proofs.Math.Pow.{pow_mono, ones_lt}
use Rattle.four_state.proofs.Lifted.{is_set-mask_of, mask_below, bits_are}
use Rattle.four_state.proofs.BitwiseLaws.{and_inside}

pub top_at : (bs : List Bit) (n : ℕ) (d : Bit) → suc n ≡ length bs → get_or bs n d ≡ top bs
top_at [] n d e = absurd (omega arith)
top_at (b ∷ []) zero d e = refl
top_at (b ∷ []) (suc n) d e = absurd (omega arith)
top_at (b ∷ c ∷ cs) zero d e = absurd (omega arith)
top_at (b ∷ c ∷ cs) (suc n) d e = top_at (c ∷ cs) n d (omega arith)

-- ---- moved masks

minus_below : (i k : ℕ) → i < k → pos i -ℤ pos k ≡ negsuc (k - suc i)
minus_below i k h = omega (arith, ints)

minus_from : (i k : ℕ) → k ≤ i → pos i -ℤ pos k ≡ pos (i - k)
minus_from i k h = omega (arith, ints)

pub raised_places : (mask i k : ℕ) → i < 128 → is_set (mask * 2 ^ k % 2 ^ 128) i ≡ is_set_at mask (pos i -ℤ pos k)
raised_places mask i k h =
    is_set-mod (mask * 2 ^ k) 128 i h ∙ ⊎_elim (λ l. is_set-shl_below mask k i l ∙ ap (is_set_at mask) (sym (minus_below i k l))) (λ l. is_set-shl_from mask k i l ∙ ap (is_set_at mask) (sym (minus_from i k l))) (cases_lt i k)

pub raised_out : (mask i k : ℕ) → i < k → is_set 0 i ≡ is_set_at mask (pos i -ℤ pos k)
raised_out mask i k h = is_set-zero i ∙ ap (is_set_at mask) (sym (minus_below i k h))

pub lowered_places : (mask i k : ℕ) → is_set (mask / 2 ^ k) i ≡ is_set mask (i + k)
lowered_places mask i k = is_set-shr mask k i ∙ ap (is_set mask) (omega arith)

pub lowered_out : (mask i k : ℕ) → mask < 2 ^ 128 → 128 ≤ k → is_set 0 i ≡ is_set mask (i + k)
lowered_out mask i k p q = is_set-zero i ∙ sym (is_set-above mask 128 (i + k) p (omega arith))

-- from a place below the first one, and from another one
pub seen_below : (mask i n : ℕ) (place : ℤ) → n ≡ nat_abs place → lt_z place (pos 0) ≡ true → is_set_at mask (pos i -ℤ pos n) ≡ is_set_at mask (place +ℤ pos i)
seen_below mask i n place e h = ap (is_set_at mask) (grind (arith, ints))

pub seen_above : (mask i n : ℕ) (place : ℤ) → n ≡ nat_abs place → lt_z place (pos 0) ≡ false → is_set mask (i + n) ≡ is_set_at mask (place +ℤ pos i)
seen_above mask i n place e h = ap (is_set_at mask) (let q : pos (i + n) ≡ place +ℤ pos i = grind (arith, ints) in q)

pub put_below : (mask i n : ℕ) (place : ℤ) → n ≡ nat_abs place → lt_z place (pos 0) ≡ true → is_set mask (i + n) ≡ is_set_at mask (pos i -ℤ place)
put_below mask i n place e h = ap (is_set_at mask) (let q : pos (i + n) ≡ pos i -ℤ place = grind (arith, ints) in q)

pub put_above : (mask i n : ℕ) (place : ℤ) → n ≡ nat_abs place → lt_z place (pos 0) ≡ false → is_set_at mask (pos i -ℤ pos n) ≡ is_set_at mask (pos i -ℤ place)
put_above mask i n place e h = ap (is_set_at mask) (grind (arith, ints))

-- ---- bits over bits

bits_at : (b : Bit) → bit_in_masks (is_one_or_z b) (is_strange b) ≡ b
bits_at Zero = refl
bits_at One = refl
bits_at X = refl
bits_at Z = refl

-- what a vector's masks have at a place is its bit
pub masks_at : (bs : List Bit) (i : ℕ) (d : Bit) → i < length bs → bit_in_masks (is_set (mask_of is_one_or_z bs) i) (is_set (mask_of is_strange bs) i) ≡ get_or bs i d
masks_at bs i d h = rw (is_set-mask_of is_one_or_z bs i d h, is_set-mask_of is_strange bs i d h) (bits_at (get_or bs i d))

-- bits laid over others, place by place
laid_at : (bs : List Bit) (inside a b i : ℕ) → i < length bs → get_or (bits_over bs inside a b) i X ≡ (if is_set inside i then bit_in_masks (is_set a i) (is_set b i) else get_or bs i X)
unfolding bits_over
laid_at [] inside a b i h = absurd (omega arith)
laid_at (c ∷ bs) inside a b zero h = rw (is_set-lowest inside, is_set-lowest a, is_set-lowest b)
laid_at (c ∷ bs) inside a b (suc i) h =
    rw (is_set-suc inside i, is_set-suc a i, is_set-suc b i) (laid_at bs (inside / 2) (a / 2) (b / 2) i (omega arith))

length-bits_over : (bs : List Bit) (inside a b : ℕ) → length (bits_over bs inside a b) ≡ length bs
unfolding bits_over
length-bits_over [] inside a b = refl
length-bits_over (c ∷ bs) inside a b = ap suc (length-bits_over bs (inside / 2) (a / 2) (b / 2))

pub laid : (bs cs : List Bit) (inside a b : ℕ) → length bs ≡ length cs → ((i : ℕ) → i < length bs → (if is_set inside i then bit_in_masks (is_set a i) (is_set b i) else get_or bs i X) ≡ get_or cs i X) → bits_over bs inside a b ≡ cs
laid bs cs inside a b e h =
    ext_get_or X (bits_over bs inside a b) cs (length-bits_over bs inside a b ∙ e) (λ i l. let k : i < length bs = rw length-bits_over at l in laid_at bs inside a b i k ∙ h i k)

either_place : (s p o : Bool) → ((o && not s) || (p && s)) ≡ (if s then p else o)
either_place false false false = refl
either_place false false true = refl
either_place false true false = refl
either_place false true true = refl
either_place true false false = refl
either_place true false true = refl
either_place true true false = refl
either_place true true true = refl

in_either : (s p q o t : Bool) → bit_in_masks (if s then p else o) (if s then q else t) ≡ (if s then bit_in_masks p q else bit_in_masks o t)
in_either false p q o t = refl
in_either true p q o t = refl

and_true : (p : Bool) → (p && true) ≡ p
and_true false = refl
and_true true = refl

-- the masks of a vector with others laid over them at the places of a third one
module _ (w inside : ℕ) (small : w ≤ 128) where
  inside_below : bit_and inside (2 ^ w - 1) < 2 ^ w
  inside_below = omega (arith, and_le_r inside (2 ^ w - 1), ones_lt w)

  inside_at : (i : ℕ) → i < w → is_set (bit_and inside (2 ^ w - 1)) i ≡ is_set inside i
  inside_at i l = rw (is_set-and, is_set-ones w i l) (and_true (is_set inside i))

  chosen : (n k i : ℕ) → i < w → is_set (bit_or (bit_and n (2 ^ 128 - 1 - bit_and inside (2 ^ w - 1))) (bit_and k (bit_and inside (2 ^ w - 1)))) i ≡ (if is_set inside i then is_set k i else is_set n i)
  chosen n k i l =
      rw (is_set-or, is_set-and n, is_set-and k, is_set-not 128 (bit_and inside (2 ^ w - 1)) i (lt_of_lt_of_le inside_below (pow_mono small)) (omega arith), inside_at i l) (either_place (is_set inside i) (is_set k i) (is_set n i))

  pub overlaid_inside : (n k : ℕ) → n < 2 ^ w → bit_or (bit_and n (2 ^ 128 - 1 - bit_and inside (2 ^ w - 1))) (bit_and k (bit_and inside (2 ^ w - 1))) < 2 ^ w
  overlaid_inside n k h =
      or_lt w _ _ (and_inside w n _ h) (lt_of_le_of_lt (and_le_r k (bit_and inside (2 ^ w - 1))) inside_below)

  pub overlaid_masks : (p q : ℕ) (bs : List Bit) → w ≡ length bs → bits_of_masks w (bit_or (bit_and (mask_of is_one_or_z bs) (2 ^ 128 - 1 - bit_and inside (2 ^ w - 1))) (bit_and p (bit_and inside (2 ^ w - 1)))) (bit_or (bit_and (mask_of is_strange bs) (2 ^ 128 - 1 - bit_and inside (2 ^ w - 1))) (bit_and q (bit_and inside (2 ^ w - 1)))) ≡ bits_over bs inside p q
  overlaid_masks p q bs e =
      bits_are w _ _ (bits_over bs inside p q) (e ∙ sym (length-bits_over bs inside p q)) (λ i l. let k : i < length bs = omega (arith, e, l) in
      rw (chosen (mask_of is_one_or_z bs) p i l, chosen (mask_of is_strange bs) q i l, in_either, masks_at bs i X k, laid_at bs inside p q i k))

-- ---- parts

inside_of : (part : List Bit) (d : Bit) (k : ℕ) (t : Bool) → nat_lt k (length part) ≡ t → (if is_set (2 ^ length part - 1) k then bit_in_masks (is_set (mask_of is_one_or_z part) k) (is_set (mask_of is_strange part) k) else d) ≡ bit_or_part d part (if t then Some k else None)
inside_of part d k true e =
    let h : k < length part = ltb-true k (length part) e in rw (is_set-ones (length part) k h) (masks_at part k d h)
inside_of part d k false e =
    let h : length part ≤ k = ltb-false k (length part) e in rw (is_set-above (2 ^ length part - 1) (length part) k (ones_lt (length part)) h)

-- what a part's masks have at a place, which may be outside, is its bit or the other one
pub part_at : (part : List Bit) (d : Bit) (place : ℤ) → (if is_set_at (2 ^ length part - 1) place then bit_in_masks (is_set_at (mask_of is_one_or_z part) place) (is_set_at (mask_of is_strange part) place) else d) ≡ bit_or_part d part (within (length part) place)
part_at part d (pos k) = inside_of part d k (nat_lt k (length part)) refl
part_at part d (negsuc k) = refl

option_bit_is : (bs : List Bit) (o : Option ℕ) → bit_or_part X bs o ≡ option_bit bs o
option_bit_is bs None = refl
option_bit_is bs (Some k) = refl

length-bits_from : (bs : List Bit) (w : ℕ) (from : ℤ) → length (bits_from bs from w) ≡ w
length-bits_from bs zero from = refl
length-bits_from bs (suc w) from = ap suc (length-bits_from bs w (from +ℤ pos 1))

get_or-bits_from : (bs : List Bit) (w i : ℕ) (from : ℤ) → i < w → get_or (bits_from bs from w) i X ≡ option_bit bs (within (length bs) (from +ℤ pos i))
get_or-bits_from bs zero i from h = absurd (omega arith)
get_or-bits_from bs (suc w) zero from h = ap (λ z. option_bit bs (within (length bs) z)) (omega (arith, ints))
get_or-bits_from bs (suc w) (suc i) from h =
    get_or-bits_from bs w i (from +ℤ pos 1) (omega arith) ∙ ap (λ z. option_bit bs (within (length bs) z)) (omega (arith, ints))

length-bits_with : (bs part : List Bit) (from : ℤ) → length (bits_with bs part from) ≡ length bs
length-bits_with [] part from = refl
length-bits_with (b ∷ bs) part from = ap suc (length-bits_with bs part (from +ℤ pos 1))

get_or-bits_with : (bs part : List Bit) (i : ℕ) (from : ℤ) → i < length bs → get_or (bits_with bs part from) i X ≡ bit_or_part (get_or bs i X) part (within (length part) (from +ℤ pos i))
get_or-bits_with [] part i from h = absurd (omega arith)
get_or-bits_with (b ∷ bs) part zero from h = ap (λ z. bit_or_part b part (within (length part) z)) (omega (arith, ints))
get_or-bits_with (b ∷ bs) part (suc i) from h =
    get_or-bits_with bs part i (from +ℤ pos 1) (omega arith) ∙ ap (λ z. bit_or_part (get_or bs i X) part (within (length part) z)) (omega (arith, ints))

length-fit : (w : ℕ) (d : Bit) (bs : List Bit) → length (fit w d bs) ≡ w
length-fit zero d bs = refl
length-fit (suc w) d [] = ap suc (length-fit w d [])
length-fit (suc w) d (b ∷ bs) = ap suc (length-fit w d bs)

get_or-fit : (w i : ℕ) (d : Bit) (bs : List Bit) → i < w → get_or (fit w d bs) i X ≡ get_or bs i d
get_or-fit zero i d bs h = absurd (omega arith)
get_or-fit (suc w) zero d [] h = refl
get_or-fit (suc w) (suc i) d [] h = get_or-fit w i d [] (omega arith) ∙ refl
get_or-fit (suc w) zero d (b ∷ bs) h = refl
get_or-fit (suc w) (suc i) d (b ∷ bs) h = get_or-fit w i d bs (omega arith)

or_else : (bs : List Bit) (d : Bit) (k : ℕ) (t : Bool) → nat_lt k (length bs) ≡ t → bit_or_part d bs (if t then Some k else None) ≡ get_or bs k d
or_else bs d k true e = refl
or_else bs d k false e = sym (get_or_past bs k d (ltb-false k (length bs) e))

-- a bit, or the other one past the end
pub part_or_else : (bs : List Bit) (d : Bit) (k : ℕ) → bit_or_part d bs (within (length bs) (pos k)) ≡ get_or bs k d
part_or_else bs d k = or_else bs d k (nat_lt k (length bs)) refl

-- the masks of a part as they are seen from a place
record IsSeen (part : List Bit) (place : ℕ → ℤ) (inside a b : ℕ) : Type 0 where
  inside_is : (i : ℕ) → i < 128 → is_set inside i ≡ is_set_at (2 ^ length part - 1) (place i)
  ones_are : (i : ℕ) → i < 128 → is_set a i ≡ is_set_at (mask_of is_one_or_z part) (place i)
  strange_are : (i : ℕ) → i < 128 → is_set b i ≡ is_set_at (mask_of is_strange part) (place i)

-- so a part over a vector is a choice at each place
over_at : (part : List Bit) (place : ℕ → ℤ) (inside a b : ℕ) (d : Bit) (i : ℕ) → IsSeen part place inside a b → i < 128 → (if is_set inside i then bit_in_masks (is_set a i) (is_set b i) else d) ≡ bit_or_part d part (within (length part) (place i))
over_at part place inside a b d i h l = rw (h.inside_is i l, h.ones_are i l, h.strange_are i l) (part_at part d (place i))

-- and over copies of one bit
over_copies : (part : List Bit) (place : ℕ → ℤ) (inside a b w : ℕ) (d : Bit) (cs : List Bit) → IsSeen part place inside a b → w ≤ 128 → length cs ≡ w → ((i : ℕ) → i < w → bit_or_part d part (within (length part) (place i)) ≡ get_or cs i X) → bits_over (replicate w d) inside a b ≡ cs
over_copies part place inside a b w d cs seen small width h =
    laid (replicate w d) cs inside a b (length-replicate w d ∙ sym width) (λ i l. let k : i < w = rw length-replicate at l in
    ap (λ e. if is_set inside i then bit_in_masks (is_set a i) (is_set b i) else e) (get_or-replicate w i d X k) ∙ over_at part place inside a b d i seen (omega arith) ∙ h i k)

pub extended_law : (w : ℕ) (d : Bit) (bs : List Bit) → w ≤ 128 → bits_over (replicate w d) (2 ^ length bs - 1) (mask_of is_one_or_z bs) (mask_of is_strange bs) ≡ fit w d bs
extended_law w d bs small =
    over_copies bs (λ i. pos i) (2 ^ length bs - 1) (mask_of is_one_or_z bs) (mask_of is_strange bs) w d (fit w d bs) (record { inside_is = λ i _. refl; ones_are = λ i _. refl; strange_are = λ i _. refl }) small (length-fit w d bs) (λ i l. part_or_else bs d i ∙ sym (get_or-fit w i d bs l))

pub selected_law : (w inside a b : ℕ) (low : ℤ) (bs : List Bit) → w ≤ 128 → ((i : ℕ) → i < 128 → is_set inside i ≡ is_set_at (2 ^ length bs - 1) (low +ℤ pos i)) → ((i : ℕ) → i < 128 → is_set a i ≡ is_set_at (mask_of is_one_or_z bs) (low +ℤ pos i)) → ((i : ℕ) → i < 128 → is_set b i ≡ is_set_at (mask_of is_strange bs) (low +ℤ pos i)) → bits_over (replicate w X) inside a b ≡ bits_from bs low w
selected_law w inside a b low bs small p q r =
    over_copies bs (λ i. low +ℤ pos i) inside a b w X (bits_from bs low w) (record { inside_is = p; ones_are = q; strange_are = r }) small (length-bits_from bs w low) (λ i l. option_bit_is bs (within (length bs) (low +ℤ pos i)) ∙ sym (get_or-bits_from bs w i low l))

pub placed_law : (inside a b : ℕ) (low : ℤ) (bs part : List Bit) → length bs ≤ 128 → ((i : ℕ) → i < 128 → is_set inside i ≡ is_set_at (2 ^ length part - 1) (pos i -ℤ low)) → ((i : ℕ) → i < 128 → is_set a i ≡ is_set_at (mask_of is_one_or_z part) (pos i -ℤ low)) → ((i : ℕ) → i < 128 → is_set b i ≡ is_set_at (mask_of is_strange part) (pos i -ℤ low)) → bits_over bs inside a b ≡ bits_with bs part (neg_ℤ low)
placed_law inside a b low bs part small p q r =
    laid bs (bits_with bs part (neg_ℤ low)) inside a b (sym (length-bits_with bs part (neg_ℤ low))) (λ i l.
    over_at part (λ j. pos j -ℤ low) inside a b (get_or bs i X) i (record { inside_is = p; ones_are = q; strange_are = r }) (omega arith) ∙ ap (λ z. bit_or_part (get_or bs i X) part (within (length part) z)) (omega (arith, ints)) ∙ sym (get_or-bits_with bs part i (neg_ℤ low) l))

-- ---- shifts

shift_left_at : (a : List Bit) (n j : ℕ) (t : Bool) → nat_lt j n ≡ t → bit_or_part Zero a (within (length a) (pos j -ℤ pos n)) ≡ (if t then Zero else get_or a (j - n) Zero)
shift_left_at a n j true e = ap (λ z. bit_or_part Zero a (within (length a) z)) (minus_below j n (ltb-true j n e))
shift_left_at a n j false e = ap (λ z. bit_or_part Zero a (within (length a) z)) (minus_from j n (ltb-false j n e)) ∙ part_or_else a Zero (j - n)

pub shift_left_law : (inside p q : ℕ) (a amount : List Bit) → length a ≤ 128 → all_known amount ≡ true → ((i : ℕ) → i < 128 → is_set inside i ≡ is_set_at (2 ^ length a - 1) (pos i -ℤ pos (natural amount))) → ((i : ℕ) → i < 128 → is_set p i ≡ is_set_at (mask_of is_one_or_z a) (pos i -ℤ pos (natural amount))) → ((i : ℕ) → i < 128 → is_set q i ≡ is_set_at (mask_of is_strange a) (pos i -ℤ pos (natural amount))) → bits_over (replicate (length a) Zero) inside p q ≡ shift_left a amount
shift_left_law inside p q a amount small known f g h =
    let n = natural amount in
    let shifted : ℕ → Bit = λ j. if nat_lt j n then Zero else get_or a (j - n) Zero in
    over_copies a (λ i. pos i -ℤ pos n) inside p q (length a) Zero (map shifted (range_with_len 0 (length a))) (record { inside_is = f; ones_are = g; strange_are = h }) small (length-map-range_with_len shifted 0 (length a)) (λ i l. shift_left_at a n i (nat_lt i n) refl ∙ sym (get_or-map-range_with_len shifted 0 (length a) i i X l (omega arith))) ∙ sym (cond-true (all_known amount) (map shifted (range_with_len 0 (length a))) (replicate (length a) X) known)

pub shift_right_law : (filler : Bit) (inside p q : ℕ) (a amount : List Bit) → length a ≤ 128 → all_known amount ≡ true → ((i : ℕ) → is_set inside i ≡ is_set (2 ^ length a - 1) (i + natural amount)) → ((i : ℕ) → is_set p i ≡ is_set (mask_of is_one_or_z a) (i + natural amount)) → ((i : ℕ) → is_set q i ≡ is_set (mask_of is_strange a) (i + natural amount)) → bits_over (replicate (length a) filler) inside p q ≡ shift_right filler a amount
shift_right_law filler inside p q a amount small known f g h =
    let n = natural amount in
    let shifted : ℕ → Bit = λ j. get_or a (j + n) filler in
    over_copies a (λ i. pos (i + n)) inside p q (length a) filler (map shifted (range_with_len 0 (length a))) (record { inside_is = λ i _. f i; ones_are = λ i _. g i; strange_are = λ i _. h i }) small (length-map-range_with_len shifted 0 (length a)) (λ i l. part_or_else a filler (i + n) ∙ sym (get_or-map-range_with_len shifted 0 (length a) i i X l (omega arith))) ∙ sym (cond-true (all_known amount) (map shifted (range_with_len 0 (length a))) (replicate (length a) X) known)

-- ---- concatenation

joined_at : (m k l i : ℕ) → k < 2 ^ l → i < 128 → is_set (bit_or (m * 2 ^ l % 2 ^ 128) k) i ≡ (is_set (m * 2 ^ l) i || is_set k i)
joined_at m k l i p q = is_set-or (m * 2 ^ l % 2 ^ 128) k i ∙ ap (λ t. t || is_set k i) (is_set-mod (m * 2 ^ l) 128 i q)

joined_low : (m k l i : ℕ) → k < 2 ^ l → i < 128 → i < l → is_set (bit_or (m * 2 ^ l % 2 ^ 128) k) i ≡ is_set k i
joined_low m k l i p q h = joined_at m k l i p q ∙ ap (λ t. t || is_set k i) (is_set-shl_below m l i h)

or_false : (p : Bool) → (p || false) ≡ p
or_false false = refl
or_false true = refl

joined_high : (m k l i : ℕ) → k < 2 ^ l → i < 128 → l ≤ i → is_set (bit_or (m * 2 ^ l % 2 ^ 128) k) i ≡ is_set m (i - l)
joined_high m k l i p q h =
    joined_at m k l i p q ∙ ap (λ t. is_set (m * 2 ^ l) i || t) (is_set-above k l i p h) ∙ or_false _ ∙ is_set-shl_from m l i h

pub joined_inside : (m k h l : ℕ) → m < 2 ^ h → k < 2 ^ l → bit_or (m * 2 ^ l % 2 ^ 128) k < 2 ^ (h + l)
joined_inside m k h l p q =
    or_lt (h + l) _ k (lt_of_le_of_lt (mod-le (m * 2 ^ l) (2 ^ 128)) (shl_below m h l p)) (lt_of_lt_of_le q (pow_mono (let e : l ≤ h + l = omega arith in e)))

pub appended_law : (hi lo : List Bit) → length hi + length lo ≤ 128 → bits_of_masks (length hi + length lo) (bit_or (mask_of is_one_or_z hi * 2 ^ length lo % 2 ^ 128) (mask_of is_one_or_z lo)) (bit_or (mask_of is_strange hi * 2 ^ length lo % 2 ^ 128) (mask_of is_strange lo)) ≡ lo ++ hi
appended_law hi lo small =
    bits_are (length hi + length lo) _ _ (lo ++ hi) (omega (arith, length-append lo hi)) (λ i l.
    ⊎_elim
    (λ below. rw (joined_low (mask_of is_one_or_z hi) (mask_of is_one_or_z lo) (length lo) i (mask_below is_one_or_z lo) (omega arith) below, joined_low (mask_of is_strange hi) (mask_of is_strange lo) (length lo) i (mask_below is_strange lo) (omega arith) below) (masks_at lo i X below ∙ sym (get_or_append_left lo hi X i below)))
    (λ above. rw (joined_high (mask_of is_one_or_z hi) (mask_of is_one_or_z lo) (length lo) i (mask_below is_one_or_z lo) (omega arith) above, joined_high (mask_of is_strange hi) (mask_of is_strange lo) (length lo) i (mask_below is_strange lo) (omega arith) above) (masks_at hi (i - length lo) X (omega arith) ∙ sym (get_or-append_right lo hi (length lo) i X refl above)))
    (cases_lt i (length lo)))
