-- How a partly known vector is kept: a vector that is 0 where it is not sure, the mask of the sure bits, and a blame.
use Rattle.std.specs.Prelude.{◌≡◌, ℕ, zero, suc, ◌+◌, ◌*◌, ◌/◌, ◌%◌, ◌^◌, ◌<◌, ◌==◌, Bool, true, false, if◌then◌else◌, List, [], ◌∷◌, length, Option, Some, None, is_some}
use Rattle.std.proofs.Common.{suc-le-suc, zero-lt-suc, mod-lt, pow-suc, ap, subst, refl, ◌∙◌}
use Rattle.std.proofs.Math.Nat.{mod-add-div}
use Rattle.std.proofs.lemmas.Nat.{div_below}
use Rattle.four_state.specs.declared.bit.Bit.{Bit}
use Rattle.four_state.specs.declared.bit.Bit.TheVariants.{Zero}
use Rattle.four_state.specs.Vector.{Vector}
use Rattle.known_state.specs.Partly.{Partly, filled, are_sure}

-- the bits at the places of a mask
unfoldable pub sure_bits : List Bit → ℕ → List (Option Bit)
sure_bits [] sure = []
sure_bits (b ∷ bs) sure = (if sure % 2 == 1 then Some b else None) ∷ sure_bits bs (sure / 2)

-- the mask of the places that are sure
unfoldable pub mask_of_sure : List (Option Bit) → ℕ
mask_of_sure [] = 0
mask_of_sure (p ∷ ps) = (if is_some p then 1 else 0) + 2 * mask_of_sure ps

abbrev pub kept_as : Vector → ℕ → ℕ → Partly
kept_as value sure blame = record { bits = sure_bits value.bits sure; signed = value.signed; blame = blame }

-- the mask is inside the width, a bit that is not sure is kept as 0, and nothing is blamed where all are sure
pub record IsKept (value : Vector) (sure blame : ℕ) : Type 0 where
  pub inside : sure < 2 ^ length value.bits
  pub blank : filled Zero (sure_bits value.bits sure) ≡ value.bits
  pub spared : are_sure (sure_bits value.bits sure) ≡ true → blame ≡ 0

some_if : (p : Bool) (b : Bit) → is_some (if p then Some b else None) ≡ p
some_if false b = refl
some_if true b = refl

digit_below_two : (d : ℕ) → d < 2 → (if d == 1 then 1 else 0) ≡ d
digit_below_two zero h = refl
digit_below_two (suc zero) h = refl
digit_below_two (suc (suc d)) (suc-le-suc (suc-le-suc h)) = elim h [ ]

half_below : (a w : ℕ) → a < 2 ^ suc w → a / 2 < 2 ^ w
half_below a w h = div_below a 2 (2 ^ w) (zero-lt-suc 1) (subst (λ n. a < n) (pow-suc 2 w) h)

from_digit : (a rest : ℕ) (p : Bool) → p ≡ (a % 2 == 1) → rest ≡ a / 2 → (if p then 1 else 0) + 2 * rest ≡ a
from_digit a rest p e r =
    ap (λ q. (if q then 1 else 0) + 2 * rest) e ∙ ap (λ n. (if a % 2 == 1 then 1 else 0) + 2 * n) r ∙ ap (λ n. n + 2 * (a / 2)) (digit_below_two (a % 2) (mod-lt a (zero-lt-suc 1))) ∙ mod-add-div a 2

below_one : (a : ℕ) → a < 1 → 0 ≡ a
below_one zero h = refl
below_one (suc a) (suc-le-suc h) = elim h [ ]

-- the bits give the mask back
pub mask_of_bits : (bs : List Bit) (sure : ℕ) → sure < 2 ^ length bs → mask_of_sure (sure_bits bs sure) ≡ sure
unfolding sure_bits mask_of_sure
mask_of_bits [] sure h = below_one sure h
mask_of_bits (b ∷ bs) sure h =
    from_digit sure (mask_of_sure (sure_bits bs (sure / 2))) (is_some (if sure % 2 == 1 then Some b else None)) (some_if (sure % 2 == 1) b) (mask_of_bits bs (sure / 2) (half_below sure (length bs) h))
