-- The masks of the bits of two masks are those masks, so that a vector's bits give back what it keeps.
use Rattle.std.specs.Prelude.{◌≡◌, ℕ, zero, suc, ◌+◌, ◌*◌, ◌/◌, ◌%◌, ◌^◌, ◌<◌, ◌==◌, Bool, true, false, if◌then◌else◌, length, refl}
use Rattle.std.proofs.Common.{suc-le-suc, zero-lt-suc, mod-lt, pow-suc, ap, subst, ◌∙◌}
use Rattle.std.proofs.Math.Nat.{mod-add-div}
use Rattle.std.proofs.lemmas.Nat.{div_below}
use Rattle.four_state.specs.Masks.{bits_of_masks, mask_of, bit_in_masks, is_one_or_z, is_strange}

pub width_of_bits : (w ones strange : ℕ) → length (bits_of_masks w ones strange) ≡ w
unfolding bits_of_masks
width_of_bits zero ones strange = refl
width_of_bits (suc w) ones strange = ap suc (width_of_bits w (ones / 2) (strange / 2))

one_or_z_in : (p q : Bool) → is_one_or_z (bit_in_masks p q) ≡ p
one_or_z_in false false = refl
one_or_z_in false true = refl
one_or_z_in true false = refl
one_or_z_in true true = refl

strange_in : (p q : Bool) → is_strange (bit_in_masks p q) ≡ q
strange_in false false = refl
strange_in false true = refl
strange_in true false = refl
strange_in true true = refl

digit_below_two : (d : ℕ) → d < 2 → (if d == 1 then 1 else 0) ≡ d
digit_below_two zero h = refl
digit_below_two (suc zero) h = refl
digit_below_two (suc (suc d)) (suc-le-suc (suc-le-suc h)) = elim h [ ]

half_below : (a w : ℕ) → a < 2 ^ suc w → a / 2 < 2 ^ w
half_below a w h = div_below a 2 (2 ^ w) (zero-lt-suc 1) (subst (λ n. a < n) (pow-suc 2 w) h)

-- a number by its lowest digit and the others
from_digit : (a rest : ℕ) (p : Bool) → p ≡ (a % 2 == 1) → rest ≡ a / 2 → (if p then 1 else 0) + 2 * rest ≡ a
from_digit a rest p e r =
    ap (λ q. (if q then 1 else 0) + 2 * rest) e ∙ ap (λ n. (if a % 2 == 1 then 1 else 0) + 2 * n) r ∙ ap (λ n. n + 2 * (a / 2)) (digit_below_two (a % 2) (mod-lt a (zero-lt-suc 1))) ∙ mod-add-div a 2

below_one : (a : ℕ) → a < 1 → 0 ≡ a
below_one zero h = refl
below_one (suc a) (suc-le-suc h) = elim h [ ]

pub ones_of_bits : (w ones strange : ℕ) → ones < 2 ^ w → mask_of is_one_or_z (bits_of_masks w ones strange) ≡ ones
unfolding bits_of_masks mask_of
ones_of_bits zero ones strange h = below_one ones h
ones_of_bits (suc w) ones strange h =
    from_digit ones (mask_of is_one_or_z (bits_of_masks w (ones / 2) (strange / 2))) (is_one_or_z (bit_in_masks (ones % 2 == 1) (strange % 2 == 1))) (one_or_z_in (ones % 2 == 1) (strange % 2 == 1)) (ones_of_bits w (ones / 2) (strange / 2) (half_below ones w h))

pub strange_of_bits : (w ones strange : ℕ) → strange < 2 ^ w → mask_of is_strange (bits_of_masks w ones strange) ≡ strange
unfolding bits_of_masks mask_of
strange_of_bits zero ones strange h = below_one strange h
strange_of_bits (suc w) ones strange h =
    from_digit strange (mask_of is_strange (bits_of_masks w (ones / 2) (strange / 2))) (is_strange (bit_in_masks (ones % 2 == 1) (strange % 2 == 1))) (strange_in (ones % 2 == 1) (strange % 2 == 1)) (strange_of_bits w (ones / 2) (strange / 2) (half_below strange w h))
