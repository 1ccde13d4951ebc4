-- The bits at the places of a mask, place by place.
use Rattle.std.proofs.Common.{◌≡◌, ℕ, zero, suc, ◌-◌, ◌*◌, ◌/◌, ◌%◌, ◌^◌, ◌<◌, ◌==◌, Bool, true, false, ◌&&◌, if◌then◌else◌, List, [], ◌∷◌, length, get_or, ext_get_or, Option, Some, None, is_some, bit_and, refl, ap, arith, sym, ◌∙◌}
use Rattle.std.proofs.lemmas.Bool.Decides.{nat_tests}
use Rattle.std.proofs.lemmas.List.{length-map, get_or-map}
use Rattle.std.proofs.lemmas.Nat.{and_le_r}
use Rattle.std.proofs.Math.Nat.{pow-succ'}
use Rattle.std.proofs.Math.Pow.{ones_lt}
use Rattle.std.specs.Option.{unwrap_or}
use Rattle.four_state.specs.declared.bit.Bit.{Bit}
use Rattle.four_state.specs.declared.bit.Bit.TheVariants.{Zero, X}
use Rattle.four_state.specs.Masks.{bits_of_masks, bit_in_masks, mask_of, is_set, is_one_or_z, is_strange}
use Rattle.four_state.specs.Stored.{width_of_bits}
use Rattle.four_state.proofs.Places.{is_set-lowest, is_set-suc, is_set-and, is_set-ones}
use Rattle.four_state.proofs.Lifted.{get_or-bits_of_masks}
use Rattle.four_state.proofs.PartLaws.{masks_at}
use Rattle.known_state.specs.Partly.{filled, are_sure, with_blame}
use Rattle.known_state.specs.Stored.{sure_bits, IsKept}

pub length-sure_bits : (bs : List Bit) (sure : ℕ) → length (sure_bits bs sure) ≡ length bs
unfolding sure_bits
length-sure_bits [] sure = refl
length-sure_bits (b ∷ bs) sure = ap suc (length-sure_bits bs (sure / 2))

pub get_or-sure_bits : (bs : List Bit) (sure i : ℕ) → i < length bs → get_or (sure_bits bs sure) i None ≡ (if is_set sure i then Some (get_or bs i X) else None)
unfolding sure_bits
get_or-sure_bits [] sure i h = absurd (omega arith)
get_or-sure_bits (b ∷ bs) sure zero h = rw (is_set-lowest sure)
get_or-sure_bits (b ∷ bs) sure (suc i) h = rw (is_set-suc sure i) (get_or-sure_bits bs (sure / 2) i (omega arith))

-- bits are those at the places of a mask where each place says so
pub sure_bits_are : (bs : List Bit) (sure : ℕ) (ps : List (Option Bit)) → length bs ≡ length ps → ((i : ℕ) → i < length bs → (if is_set sure i then Some (get_or bs i X) else None) ≡ get_or ps i None) → sure_bits bs sure ≡ ps
sure_bits_are bs sure ps e h =
    ext_get_or None (sure_bits bs sure) ps (length-sure_bits bs sure ∙ e) (λ i l. let k : i < length bs = rw (length-sure_bits bs sure) at l in get_or-sure_bits bs sure i k ∙ h i k)

all_by_digit : (p sure : ℕ) → 0 < p → sure < 2 * p → (sure == 2 * p - 1) ≡ ((sure % 2 == 1) && (sure / 2 == p - 1))
all_by_digit p sure z h = grind (arith, nat_tests)

some_if : (p : Bool) (b : Bit) → is_some (if p then Some b else None) ≡ p
some_if false b = refl
some_if true b = refl

pow_pos : (n : ℕ) → 0 < 2 ^ n
pow_pos zero = omega arith
pow_pos (suc n) = let h = pow_pos n in rw pow-succ' (omega arith)

no_places : (sure : ℕ) → sure < 1 → true ≡ (sure == 0)
no_places sure h = grind (arith, nat_tests)

-- all bits are sure where the mask has all places
pub are_sure-sure_bits : (bs : List Bit) (sure : ℕ) → sure < 2 ^ length bs → are_sure (sure_bits bs sure) ≡ (sure == 2 ^ length bs - 1)
unfolding sure_bits
are_sure-sure_bits [] sure h = no_places sure h
are_sure-sure_bits (b ∷ bs) sure h =
    let small : sure < 2 * 2 ^ length bs = rw pow-succ' at h in
    let positive = pow_pos (length bs) in
    ap (λ p. p && are_sure (sure_bits bs (sure / 2))) (some_if (sure % 2 == 1) b) ∙ ap (λ q. (sure % 2 == 1) && q) (are_sure-sure_bits bs (sure / 2) (omega arith)) ∙ sym (all_by_digit (2 ^ length bs) sure positive small) ∙ ap (λ n. sure == n - 1) (sym (pow-succ' 2 (length bs)))

and_true : (p : Bool) → (p && true) ≡ p
and_true false = refl
and_true true = refl

kept_if : (s p q : Bool) → (if s then Some (bit_in_masks (p && s) (q && s)) else None) ≡ (if s then Some (bit_in_masks p q) else None)
kept_if false p q = refl
kept_if true p q = rw (and_true p, and_true q)

blank_if : (s p q : Bool) → unwrap_or (if s then Some (bit_in_masks (p && s) (q && s)) else None) Zero ≡ bit_in_masks (p && s) (q && s)
blank_if true p q = refl
blank_if false false false = refl
blank_if false false true = refl
blank_if false true false = refl
blank_if false true true = refl

-- the mask of all places cuts one
pub cut_at : (w mask i : ℕ) → i < w → is_set (bit_and mask (2 ^ w - 1)) i ≡ is_set mask i
cut_at w mask i l = rw (is_set-and, is_set-ones w i l) (and_true (is_set mask i))

pub cut_inside : (w mask : ℕ) → bit_and mask (2 ^ w - 1) < 2 ^ w
cut_inside w mask = omega (arith, and_le_r mask (2 ^ w - 1), ones_lt w)

-- the bits of two masks, with 0 at the places that a third one has not
module _ (w ones strange sure : ℕ) where
  blank_at : (i : ℕ) → i < w → get_or (bits_of_masks w (bit_and ones sure) (bit_and strange sure)) i X ≡ bit_in_masks (is_set ones i && is_set sure i) (is_set strange i && is_set sure i)
  blank_at i l = rw (get_or-bits_of_masks w _ _ i X l, is_set-and ones, is_set-and strange)

  pub kept_blank : filled Zero (sure_bits (bits_of_masks w (bit_and ones sure) (bit_and strange sure)) sure) ≡ bits_of_masks w (bit_and ones sure) (bit_and strange sure)
  kept_blank =
      ext_get_or X _ _ (length-map _ _ ∙ length-sure_bits _ sure) (λ i l. let k : i < length (sure_bits (bits_of_masks w (bit_and ones sure) (bit_and strange sure)) sure) = rw length-map at l in let m : i < length (bits_of_masks w (bit_and ones sure) (bit_and strange sure)) = rw length-sure_bits at k in let n : i < w = rw width_of_bits at m in
      get_or-map (λ p. unwrap_or p Zero) _ i None X k ∙ ap (λ p. unwrap_or p Zero) (get_or-sure_bits _ sure i m) ∙ rw (blank_at i n) (blank_if (is_set sure i) (is_set ones i) (is_set strange i)))

-- so the bits of a vector at the places of a mask stay where the others are kept as 0
pub kept_bits : (bs : List Bit) (sure : ℕ) → sure_bits (bits_of_masks (length bs) (bit_and (mask_of is_one_or_z bs) (bit_and sure (2 ^ length bs - 1))) (bit_and (mask_of is_strange bs) (bit_and sure (2 ^ length bs - 1)))) (bit_and sure (2 ^ length bs - 1)) ≡ sure_bits bs sure
kept_bits bs sure =
    sure_bits_are _ (bit_and sure (2 ^ length bs - 1)) (sure_bits bs sure) (width_of_bits _ _ _ ∙ sym (length-sure_bits bs sure)) (λ i l. let k : i < length bs = rw width_of_bits at l in
    rw (blank_at (length bs) (mask_of is_one_or_z bs) (mask_of is_strange bs) (bit_and sure (2 ^ length bs - 1)) i k, get_or-sure_bits bs sure i k, cut_at (length bs) sure i k) (kept_if (is_set sure i) (is_set (mask_of is_one_or_z bs) i) (is_set (mask_of is_strange bs) i) ∙ ap (λ b. if is_set sure i then Some b else None) (masks_at bs i X k)))

-- all bits are sure where the mask has all places of the width
pub whole_if : (bs : List Bit) (sure : ℕ) → are_sure (sure_bits bs sure) ≡ (bit_and sure (2 ^ length bs - 1) == 2 ^ length bs - 1)
whole_if bs sure =
    ap are_sure (sure_bits_are bs sure (sure_bits bs (bit_and sure (2 ^ length bs - 1))) (sym (length-sure_bits bs _)) (λ i l. rw (get_or-sure_bits bs (bit_and sure (2 ^ length bs - 1)) i l, cut_at (length bs) sure i l))) ∙ are_sure-sure_bits bs (bit_and sure (2 ^ length bs - 1)) (cut_inside (length bs) sure)

spared_if : (p : Bool) (thing : ℕ) → p ≡ true → (if p then 0 else thing) ≡ 0
spared_if false thing h = cc
spared_if true thing h = refl

pub kept_law : (bs : List Bit) (signed : Bool) (sure thing : ℕ) → IsKept (record { bits = bits_of_masks (length bs) (bit_and (mask_of is_one_or_z bs) (bit_and sure (2 ^ length bs - 1))) (bit_and (mask_of is_strange bs) (bit_and sure (2 ^ length bs - 1))); signed = signed }) (bit_and sure (2 ^ length bs - 1)) (if (bit_and sure (2 ^ length bs - 1) == 2 ^ length bs - 1) then 0 else thing)
kept_law bs signed sure thing =
    record {
      inside = rw width_of_bits (cut_inside (length bs) sure);
      blank = kept_blank (length bs) (mask_of is_one_or_z bs) (mask_of is_strange bs) (bit_and sure (2 ^ length bs - 1));
      spared = λ h. spared_if (bit_and sure (2 ^ length bs - 1) == 2 ^ length bs - 1) thing (sym (whole_if bs sure) ∙ ap are_sure (sym (kept_bits bs sure)) ∙ h);
    }

pub kept_value : (bs : List Bit) (signed : Bool) (sure thing : ℕ) → record { bits = sure_bits (bits_of_masks (length bs) (bit_and (mask_of is_one_or_z bs) (bit_and sure (2 ^ length bs - 1))) (bit_and (mask_of is_strange bs) (bit_and sure (2 ^ length bs - 1)))) (bit_and sure (2 ^ length bs - 1)); signed = signed; blame = if (bit_and sure (2 ^ length bs - 1) == 2 ^ length bs - 1) then 0 else thing } ≡ with_blame (sure_bits bs sure) signed thing
kept_value bs signed sure thing =
    ap (λ ps. record { bits = ps; signed = signed; blame = if (bit_and sure (2 ^ length bs - 1) == 2 ^ length bs - 1) then 0 else thing }) (kept_bits bs sure) ∙ ap (λ t. record { bits = sure_bits bs sure; signed = signed; blame = if t then 0 else thing }) (sym (whole_if bs sure))
