-- The bitwise operators on the masks of the 1 bits and of the 0 bits.
use Rattle.std.proofs.Common.{◌≡◌, ℕ, ◌-◌, ◌^◌, ◌<◌, Bool, true, false, not, ◌&&◌, ◌||◌, List, map, length, get_or, bit_and, bit_or, refl, ap, arith, ◌∙◌}
use Rattle.std.proofs.lemmas.Nat.{or_lt, and_le_l}
use Rattle.four_state.specs.Vector.{Bit, Zero, One, X, Z, is_zero, is_one}
use Rattle.four_state.specs.Operators.{not_bit, and_bit, or_bit, xor_bit, merge_bit, zip_bits}
use Rattle.four_state.specs.Masks.{bits_of_masks, mask_of, bit_in_masks, is_set}
use Rattle.four_state.proofs.Places.{is_set-and, is_set-or, is_set-not}
use Rattle.four_state.proofs.Lifted.{mapped, zipped, mask_below, is_set-mask_of}

-- `&` and `|` of masks that are inside the width are inside it
pub and_inside : (w a b : ℕ) → a < 2 ^ w → bit_and a b < 2 ^ w
and_inside w a b h = omega (arith, and_le_l a b)

pub or_inside : (w a b : ℕ) → a < 2 ^ w → b < 2 ^ w → bit_or a b < 2 ^ w
or_inside w a b p q = or_lt w a b p q

-- 1 in the first case, 0 in the second, else x
abbrev pub known_bit : Bool → Bool → Bit
known_bit true zero = One
known_bit false true = Zero
known_bit false false = X

in_masks : (one zero : Bool) → bit_in_masks one (not (one || zero)) ≡ known_bit one zero
in_masks true zero = refl
in_masks false true = refl
in_masks false false = refl

-- each bit of the vector of which the 1 bits and the 0 bits are these
known_at : (w ones zeros i : ℕ) → ones < 2 ^ w → zeros < 2 ^ w → i < w → bit_in_masks (is_set ones i) (is_set (2 ^ w - 1 - bit_or ones zeros) i) ≡ known_bit (is_set ones i) (is_set zeros i)
known_at w ones zeros i p q l =
    ap (bit_in_masks (is_set ones i)) (is_set-not w (bit_or ones zeros) i (or_lt w ones zeros p q) l ∙ ap not (is_set-or ones zeros i)) ∙ in_masks (is_set ones i) (is_set zeros i)

-- so the operator on each bit, or on each pair, is what the two masks say at each place
mapped_known : (f : Bit → Bit) (ones zeros : ℕ) (bs : List Bit) → ones < 2 ^ length bs → zeros < 2 ^ length bs → ((i : ℕ) → i < length bs → known_bit (is_set ones i) (is_set zeros i) ≡ f (get_or bs i X)) → bits_of_masks (length bs) ones (2 ^ length bs - 1 - bit_or ones zeros) ≡ map f bs
mapped_known f ones zeros bs p q h =
    mapped f (length bs) ones (2 ^ length bs - 1 - bit_or ones zeros) bs refl (λ i l. known_at (length bs) ones zeros i p q l ∙ h i l)

zipped_known : (f : Bit → Bit → Bit) (ones zeros : ℕ) (bs cs : List Bit) → length bs ≡ length cs → ones < 2 ^ length bs → zeros < 2 ^ length bs → ((i : ℕ) → i < length bs → known_bit (is_set ones i) (is_set zeros i) ≡ f (get_or bs i X) (get_or cs i X)) → bits_of_masks (length bs) ones (2 ^ length bs - 1 - bit_or ones zeros) ≡ zip_bits f bs cs
zipped_known f ones zeros bs cs same p q h =
    zipped f (length bs) ones (2 ^ length bs - 1 - bit_or ones zeros) bs cs refl same (λ i l. known_at (length bs) ones zeros i p q l ∙ h i l)

not_at : (b : Bit) → known_bit (is_zero b) (is_one b) ≡ not_bit b
not_at Zero = refl
not_at One = refl
not_at X = refl
not_at Z = refl

pub not_of_masks : (bs : List Bit) → bits_of_masks (length bs) (mask_of is_zero bs) (2 ^ length bs - 1 - bit_or (mask_of is_zero bs) (mask_of is_one bs)) ≡ map not_bit bs
not_of_masks bs =
    mapped_known not_bit (mask_of is_zero bs) (mask_of is_one bs) bs (mask_below is_zero bs) (mask_below is_one bs) (λ i l.
    rw (is_set-mask_of is_zero bs i X l, is_set-mask_of is_one bs i X l) (not_at (get_or bs i X)))

and_at : (b c : Bit) → known_bit (is_one b && is_one c) (is_zero b || is_zero c) ≡ and_bit b c
and_at Zero Zero = refl
and_at Zero One = refl
and_at Zero X = refl
and_at Zero Z = refl
and_at One Zero = refl
and_at One One = refl
and_at One X = refl
and_at One Z = refl
and_at X Zero = refl
and_at X One = refl
and_at X X = refl
and_at X Z = refl
and_at Z Zero = refl
and_at Z One = refl
and_at Z X = refl
and_at Z Z = refl

or_at : (b c : Bit) → known_bit (is_one b || is_one c) (is_zero b && is_zero c) ≡ or_bit b c
or_at Zero Zero = refl
or_at Zero One = refl
or_at Zero X = refl
or_at Zero Z = refl
or_at One Zero = refl
or_at One One = refl
or_at One X = refl
or_at One Z = refl
or_at X Zero = refl
or_at X One = refl
or_at X X = refl
or_at X Z = refl
or_at Z Zero = refl
or_at Z One = refl
or_at Z X = refl
or_at Z Z = refl

merge_at : (b c : Bit) → known_bit (is_one b && is_one c) (is_zero b && is_zero c) ≡ merge_bit b c
merge_at Zero Zero = refl
merge_at Zero One = refl
merge_at Zero X = refl
merge_at Zero Z = refl
merge_at One Zero = refl
merge_at One One = refl
merge_at One X = refl
merge_at One Z = refl
merge_at X Zero = refl
merge_at X One = refl
merge_at X X = refl
merge_at X Z = refl
merge_at Z Zero = refl
merge_at Z One = refl
merge_at Z X = refl
merge_at Z Z = refl

xor_at : (b c : Bit) → known_bit ((is_one b && is_zero c) || (is_zero b && is_one c)) ((is_one b && is_one c) || (is_zero b && is_zero c)) ≡ xor_bit b c
xor_at Zero Zero = refl
xor_at Zero One = refl
xor_at Zero X = refl
xor_at Zero Z = refl
xor_at One Zero = refl
xor_at One One = refl
xor_at One X = refl
xor_at One Z = refl
xor_at X Zero = refl
xor_at X One = refl
xor_at X X = refl
xor_at X Z = refl
xor_at Z Zero = refl
xor_at Z One = refl
xor_at Z X = refl
xor_at Z Z = refl

module _ (bs cs : List Bit) (same : length bs ≡ length cs) where
  one_here : (i : ℕ) → i < length bs → is_set (mask_of is_one bs) i ≡ is_one (get_or bs i X)
  one_here i l = is_set-mask_of is_one bs i X l

  zero_here : (i : ℕ) → i < length bs → is_set (mask_of is_zero bs) i ≡ is_zero (get_or bs i X)
  zero_here i l = is_set-mask_of is_zero bs i X l

  one_there : (i : ℕ) → i < length bs → is_set (mask_of is_one cs) i ≡ is_one (get_or cs i X)
  one_there i l = is_set-mask_of is_one cs i X (rw (← same) l)

  zero_there : (i : ℕ) → i < length bs → is_set (mask_of is_zero cs) i ≡ is_zero (get_or cs i X)
  zero_there i l = is_set-mask_of is_zero cs i X (rw (← same) l)

  one_below : mask_of is_one cs < 2 ^ length bs
  one_below = rw same (mask_below is_one cs)

  zero_below : mask_of is_zero cs < 2 ^ length bs
  zero_below = rw same (mask_below is_zero cs)

  pub and_of_masks : bits_of_masks (length bs) (bit_and (mask_of is_one bs) (mask_of is_one cs)) (2 ^ length bs - 1 - bit_or (bit_and (mask_of is_one bs) (mask_of is_one cs)) (bit_or (mask_of is_zero bs) (mask_of is_zero cs))) ≡ zip_bits and_bit bs cs
  and_of_masks =
      zipped_known and_bit (bit_and (mask_of is_one bs) (mask_of is_one cs)) (bit_or (mask_of is_zero bs) (mask_of is_zero cs)) bs cs same (and_inside (length bs) _ _ (mask_below is_one bs)) (or_lt (length bs) _ _ (mask_below is_zero bs) zero_below) (λ i l.
      simp (is_set-and, is_set-or, one_here i l, zero_here i l, one_there i l, zero_there i l) (and_at (get_or bs i X) (get_or cs i X)))

  pub or_of_masks : bits_of_masks (length bs) (bit_or (mask_of is_one bs) (mask_of is_one cs)) (2 ^ length bs - 1 - bit_or (bit_or (mask_of is_one bs) (mask_of is_one cs)) (bit_and (mask_of is_zero bs) (mask_of is_zero cs))) ≡ zip_bits or_bit bs cs
  or_of_masks =
      zipped_known or_bit (bit_or (mask_of is_one bs) (mask_of is_one cs)) (bit_and (mask_of is_zero bs) (mask_of is_zero cs)) bs cs same (or_lt (length bs) _ _ (mask_below is_one bs) one_below) (and_inside (length bs) _ _ (mask_below is_zero bs)) (λ i l.
      simp (is_set-and, is_set-or, one_here i l, zero_here i l, one_there i l, zero_there i l) (or_at (get_or bs i X) (get_or cs i X)))

  pub merge_of_masks : bits_of_masks (length bs) (bit_and (mask_of is_one bs) (mask_of is_one cs)) (2 ^ length bs - 1 - bit_or (bit_and (mask_of is_one bs) (mask_of is_one cs)) (bit_and (mask_of is_zero bs) (mask_of is_zero cs))) ≡ zip_bits merge_bit bs cs
  merge_of_masks =
      zipped_known merge_bit (bit_and (mask_of is_one bs) (mask_of is_one cs)) (bit_and (mask_of is_zero bs) (mask_of is_zero cs)) bs cs same (and_inside (length bs) _ _ (mask_below is_one bs)) (and_inside (length bs) _ _ (mask_below is_zero bs)) (λ i l.
      simp (is_set-and, one_here i l, zero_here i l, one_there i l, zero_there i l) (merge_at (get_or bs i X) (get_or cs i X)))

  pub xor_of_masks : bits_of_masks (length bs) (bit_or (bit_and (mask_of is_one bs) (mask_of is_zero cs)) (bit_and (mask_of is_zero bs) (mask_of is_one cs))) (2 ^ length bs - 1 - bit_or (bit_or (bit_and (mask_of is_one bs) (mask_of is_zero cs)) (bit_and (mask_of is_zero bs) (mask_of is_one cs))) (bit_or (bit_and (mask_of is_one bs) (mask_of is_one cs)) (bit_and (mask_of is_zero bs) (mask_of is_zero cs)))) ≡ zip_bits xor_bit bs cs
  xor_of_masks =
      zipped_known xor_bit (bit_or (bit_and (mask_of is_one bs) (mask_of is_zero cs)) (bit_and (mask_of is_zero bs) (mask_of is_one cs))) (bit_or (bit_and (mask_of is_one bs) (mask_of is_one cs)) (bit_and (mask_of is_zero bs) (mask_of is_zero cs))) bs cs same (or_lt (length bs) _ _ (and_inside (length bs) _ _ (mask_below is_one bs)) (and_inside (length bs) _ _ (mask_below is_zero bs))) (or_lt (length bs) _ _ (and_inside (length bs) _ _ (mask_below is_one bs)) (and_inside (length bs) _ _ (mask_below is_zero bs))) (λ i l.
      simp (is_set-and, is_set-or, one_here i l, zero_here i l, one_there i l, zero_there i l) (xor_at (get_or bs i X) (get_or cs i X)))
