-- Arithmetic, relations and shifts on bits, through the whole numbers of known bits
-- (IEEE 1364-2001, clauses 4.1.5, 4.1.6, 4.1.7, 4.1.12 and 4.5).
use Rattle.std.specs.Prelude.{ℕ, zero, suc, ◌+◌, ◌-◌, ◌*◌, ◌/◌, ◌%◌, ◌==◌, nat_lt, Bool, false, ◌&&◌, if◌then◌else◌, List, [], ◌∷◌, ◌++◌, map, length, slice_index_or, ℤ, pos, negsuc}
use Rattle.std.specs.List.{range_with_len}
use Rattle.four_state.specs.Vector.{Bit, Zero, One, X, is_one, all_known, bit_of, fill, top}

-- the other bit, or x
abbrev pub not_bit : Bit → Bit
not_bit Zero = One
not_bit One = Zero
not_bit _ = X

-- the number that the 1 bits make
abbrev pub natural : List Bit → ℕ
natural [] = 0
natural (b ∷ bs) = (if is_one b then 1 else 0) + 2 * natural bs

-- the lowest w bits of a number
abbrev pub low_bits : ℕ → ℕ → List Bit
low_bits zero n = []
low_bits (suc w) n = bit_of (n % 2 == 1) ∷ low_bits w (n / 2)

-- the whole number of known bits, in two's complement if signed
abbrev pub whole : Bool → List Bit → ℤ
whole signed bs = if signed && is_one (top bs) then negsuc (natural (map not_bit bs)) else pos (natural bs)

-- a whole number cut to w bits
abbrev pub cut : ℕ → ℤ → List Bit
cut w (pos n) = low_bits w n
cut w (negsuc n) = map not_bit (low_bits w n)

-- the result, or w bits x if any bit of the operands is x or z
abbrev pub if_known : List Bit → ℕ → List Bit → List Bit
if_known operands w result = if all_known operands then result else fill w X

-- whether a whole number is 0
abbrev pub is_natural_zero : ℤ → Bool
is_natural_zero (pos n) = n == 0
is_natural_zero (negsuc n) = false

-- f of two whole numbers, cut to the width
abbrev pub arithmetic : (ℤ → ℤ → ℤ) → Bool → List Bit → List Bit → List Bit
arithmetic f signed a b = if_known (a ++ b) (length a) (cut (length a) (f (whole signed a) (whole signed b)))

-- the same of a quotient or a remainder, all x if the divisor is 0
abbrev pub division : (ℤ → ℤ → ℤ) → Bool → List Bit → List Bit → List Bit
division f signed a b = if is_natural_zero (whole signed b) then fill (length a) X else arithmetic f signed a b

-- whether a relation of two whole numbers holds
abbrev pub relation : (ℤ → ℤ → Bool) → Bool → List Bit → List Bit → List Bit
relation f signed a b = if_known (a ++ b) 1 (bit_of (f (whole signed a) (whole signed b)) ∷ [])

-- each bit by the amount and its place; an amount with x or z gives all x
abbrev pub shift : (ℕ → ℕ → Bit) → List Bit → List Bit → List Bit
shift f a amount = if_known amount (length a) (map (f (natural amount)) (range_with_len 0 (length a)))

-- vacated places are filled by 0
abbrev pub shift_left : List Bit → List Bit → List Bit
shift_left a amount = shift (λ n j. if nat_lt j n then Zero else slice_index_or a (j - n) Zero) a amount

-- vacated places are filled by this bit
abbrev pub shift_right : Bit → List Bit → List Bit → List Bit
shift_right filler a amount = shift (λ n j. slice_index_or a (j + n) filler) a amount
