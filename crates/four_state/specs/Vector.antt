-- Four-state vectors (IEEE 1364-2001, clauses 3.1 and 3.3): bits, the lowest first, and a sign flag.
use Rattle.std.specs.Prelude.{◌≤◌, ℕ, zero, suc, Bool, true, false, ◌&&◌, if◌then◌else◌, List, [], ◌∷◌, length, replicate}
use Rattle.std.specs.List.{list_all, list_any}
pub use Rattle.four_state.specs.declared.bit.Bit.{Bit}
pub use Rattle.four_state.specs.declared.bit.Bit.TheVariants.{Zero, One, X, Z}
pub use Rattle.four_state.specs.declared.truth.Truth.{Truth}
pub use Rattle.four_state.specs.declared.truth.Truth.TheVariants.{True, False, Strange}

pub record Vector : Type 0 where
  pub bits : List Bit
  pub signed : Bool

-- a vector of these bits, with the sign of another
abbrev pub with_bits : Vector → List Bit → Vector
with_bits v bs = record { bits = bs; signed = v.signed }

-- the width is from 1 to 128
abbrev pub HasWidth : Vector → Type 0
HasWidth v = (1 ≤ length v.bits) × (length v.bits ≤ 128)

-- whether two bits are equal, x and z as values
abbrev pub same_bit : Bit → Bit → Bool
same_bit Zero Zero = true
same_bit One One = true
same_bit X X = true
same_bit Z Z = true
same_bit _ _ = false

-- whether two lists of bits are
abbrev pub same_bits : List Bit → List Bit → Bool
same_bits [] [] = true
same_bits (b ∷ bs) (c ∷ cs) = same_bit b c && same_bits bs cs
same_bits _ _ = false

-- neither x nor z
abbrev pub is_known : Bit → Bool
is_known Zero = true
is_known One = true
is_known _ = false

abbrev pub is_zero : Bit → Bool
is_zero b = same_bit b Zero

abbrev pub is_one : Bit → Bool
is_one b = same_bit b One

-- no bit is x or z
abbrev pub all_known : List Bit → Bool
all_known bs = list_all is_known bs

-- 1 for true
abbrev pub bit_of : Bool → Bit
bit_of true = One
bit_of false = Zero

-- true with a known 1 bit, false with all bits 0 (clause 9.4)
abbrev pub truth : List Bit → Truth
truth bs = if list_any is_one bs then True else (if list_all is_zero bs then False else Strange)

-- the bit that a logical operator gives for a truth
abbrev pub truth_bit : Truth → Bit
truth_bit True = One
truth_bit False = Zero
truth_bit Strange = X

-- this number of bits that are all this one
abbrev pub fill : ℕ → Bit → List Bit
fill w b = replicate w b

-- the highest bit
abbrev pub top : List Bit → Bit
top [] = Zero
top (b ∷ []) = b
top (b ∷ c ∷ cs) = top (c ∷ cs)

-- the lowest w bits, filled up by this bit
abbrev pub fit : ℕ → Bit → List Bit → List Bit
fit zero b bs = []
fit (suc w) b [] = b ∷ fit w b []
fit (suc w) b (c ∷ cs) = c ∷ fit w b cs

-- cut, or filled up by the top bit if signed and else by 0 (clause 4.5.2)
abbrev pub extend : ℕ → Bool → List Bit → List Bit
extend w signed bs = fit w (if signed then top bs else Zero) bs
