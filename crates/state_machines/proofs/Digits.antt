-- Digits and bits: place by place, and no two values of one width have the same digits.
use Rattle.std.proofs.Common.{◌≡◌, ℕ, ◌-◌, ◌<◌, List, [], ◌∷◌, length, map, get_or, refl, sym, ap, ap₂, ◌∙◌, arith}
use Rattle.std.specs.Prelude.{reverse, slice_get, Some}
use Rattle.std.proofs.lemmas.List.{get_or-map, get_or-reverse, length-map, length-reverse, reverse-reverse}
use Rattle.std.proofs.lemmas.Option.{get_or_from_slice_get}
use Rattle.four_state.specs.Vector.{Vector}
use Rattle.four_state.specs.declared.bit.Bit.{Bit}
use Rattle.four_state.specs.declared.bit.Bit.TheVariants.{One, X, Z, Zero}
use Rattle.state_machines.specs.Drawn.{digit_of, digits_of}

pub digit_count : (v : Vector) → length (digits_of v) ≡ length v.bits
digit_count v = length-map (reverse v.bits) digit_of ∙ length-reverse v.bits

-- the digit at a place is that of the bit as far from the other end
pub digit_at : (v : Vector) (place : ℕ) (b : Bit) → place < length v.bits → slice_get v.bits (length v.bits - 1 - place) ≡ Some b → get_or (digits_of v) place 0 ≡ digit_of b
digit_at v place b within is =
    get_or-map digit_of (reverse v.bits) place X 0 (omega (arith, within, length-reverse v.bits)) ∙ ap digit_of (get_or-reverse v.bits place X within ∙ get_or_from_slice_get v.bits (length v.bits - 1 - place) b X is)

one_digit : (a b : Bit) → digit_of a ≡ digit_of b → a ≡ b
one_digit Zero Zero e = refl
one_digit One One e = refl
one_digit X X e = refl
one_digit Z Z e = refl
one_digit Zero One e = absurd (omega (arith, e))
one_digit Zero X e = absurd (omega (arith, e))
one_digit Zero Z e = absurd (omega (arith, e))
one_digit One Zero e = absurd (omega (arith, e))
one_digit One X e = absurd (omega (arith, e))
one_digit One Z e = absurd (omega (arith, e))
one_digit X Zero e = absurd (omega (arith, e))
one_digit X One e = absurd (omega (arith, e))
one_digit X Z e = absurd (omega (arith, e))
one_digit Z Zero e = absurd (omega (arith, e))
one_digit Z One e = absurd (omega (arith, e))
one_digit Z X e = absurd (omega (arith, e))

same_digits : (bs cs : List Bit) → map digit_of bs ≡ map digit_of cs → bs ≡ cs
same_digits [] [] e = refl
same_digits [] (c ∷ cs) e = cc
same_digits (b ∷ bs) [] e = cc
same_digits (b ∷ bs) (c ∷ cs) e =
    let first : digit_of b ≡ digit_of c = cc in
    let rest : map digit_of bs ≡ map digit_of cs = cc in
    ap₂ (λ x xs. x ∷ xs) (one_digit b c first) (same_digits bs cs rest)

-- the digits of a value give its bits
pub digits_apart : (v w : Vector) → digits_of v ≡ digits_of w → v.bits ≡ w.bits
digits_apart v w e = sym (reverse-reverse v.bits) ∙ ap reverse (same_digits (reverse v.bits) (reverse w.bits) e) ∙ reverse-reverse w.bits
