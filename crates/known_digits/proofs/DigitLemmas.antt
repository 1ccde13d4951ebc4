-- Digits and bits, place by place.
use Rattle.std.proofs.Common.{◌≡◌, ℕ, ◌+◌, ◌-◌, ◌<◌, ◌++◌, true, false, List, [], ◌∷◌, length, take, get_or, Option, Some, None, is_some, refl, sym, ap, ◌∙◌, arith}
use Rattle.std.specs.Prelude.{reverse, set, slice_get, unwrap_or}
use Rattle.std.proofs.lemmas.Bool.{false≢true}
use Rattle.std.proofs.lemmas.List.{get_or-map, get_or-reverse, length-map, length-reverse, take_more, take_more_set}
use Rattle.std.proofs.lemmas.Option.{get_or_from_slice_get}
use Rattle.four_state.specs.declared.bit.Bit.{Bit}
use Rattle.four_state.specs.declared.bit.Bit.TheVariants.{X, Zero}
use Rattle.known_state.specs.Partly.{filled}
use Rattle.known_state.proofs.Bits.{get_or-filled}
use Rattle.known_digits.specs.Digits.{digit_of, digits_of}

pub count_of : (bits : List (Option Bit)) → length (digits_of bits) ≡ length bits
count_of bits = length-map (reverse bits) digit_of ∙ length-reverse bits

-- the digit at a place is that of the bit as far from the other end
pub digit_at : (bits : List (Option Bit)) (place : ℕ) → place < length bits → get_or (digits_of bits) place 0 ≡ digit_of (get_or bits (length bits - 1 - place) None)
digit_at bits place within =
    get_or-map digit_of (reverse bits) place None 0 (omega (arith, within, length-reverse bits)) ∙ ap digit_of (get_or-reverse bits place None within)

-- one digit more
pub one_more : (bits : List (Option Bit)) (room : List ℕ) (place digit : ℕ) → place < length bits → place < length room → take place room ≡ take place (digits_of bits)
    → digit ≡ digit_of (get_or bits (length bits - 1 - place) None) → take (place + 1) (set room place digit) ≡ take (place + 1) (digits_of bits)
one_more bits room place digit within inside so_far is =
    take_more_set room place digit inside
    ∙ ap (λ front. front ++ digit ∷ []) so_far
    ∙ ap (λ d. take place (digits_of bits) ++ d ∷ []) (is ∙ sym (digit_at bits place within))
    ∙ sym (take_more (digits_of bits) place 0 (omega (arith, within, count_of bits)))

some_bit : (o : Option Bit) (b : Bit) → is_some o ≡ true → unwrap_or o Zero ≡ b → Some b ≡ o
some_bit None b some is = absurd (false≢true some)
some_bit (Some x) b some is = ap Some (sym is)

-- a sure bit is that of the vector with 0 where it is not sure
pub sure_bit : (bits : List (Option Bit)) (place : ℕ) (b : Bit) → place < length bits → is_some (get_or bits place None) ≡ true → slice_get (filled Zero bits) place ≡ Some b → Some b ≡ get_or bits place None
sure_bit bits place b within some is =
    some_bit (get_or bits place None) b some (sym (get_or-filled Zero bits place within) ∙ get_or_from_slice_get (filled Zero bits) place b X is)

pub unsure_bit : (o : Option Bit) → is_some o ≡ false → None ≡ o
unsure_bit None none = refl
unsure_bit (Some x) none = absurd (false≢true (sym none))
