-- Parts of a vector by the offset of their lowest bit, and a vector as an index (IEEE 1364-2001, clause 4.2.1).
use Rattle.std.specs.Prelude.{ℕ, zero, suc, nat_lt, Bool, false, if◌then◌else◌, List, [], ◌∷◌, ◌++◌, length, slice_index_or, ℤ, pos, negsuc, ◌+ℤ◌, neg_ℤ, Option, Some, None}
use Rattle.four_state.specs.Vector.{Bit, X, Vector, all_known, extend}
use Rattle.four_state.specs.Arithmetic.{whole}
pub use Rattle.four_state.specs.declared.index.Index.{Index}
use Rattle.four_state.specs.declared.index.Index.TheVariants as variant

-- a whole number as a number below a bound
abbrev pub within : ℕ → ℤ → Option ℕ
within n (pos k) = if nat_lt k n then Some k else None
within n (negsuc k) = None

-- the bit at this place, or else x
abbrev pub option_bit : List Bit → Option ℕ → Bit
option_bit bs None = X
option_bit bs (Some k) = slice_index_or bs k X

-- w bits from this offset up; outside they read x
abbrev pub bits_from : List Bit → ℤ → ℕ → List Bit
bits_from bs from zero = []
bits_from bs from (suc w) = option_bit bs (within (length bs) from) ∷ bits_from bs (from +ℤ pos 1) w

-- this bit, or that of the part at this place
abbrev pub bit_or_part : Bit → List Bit → Option ℕ → Bit
bit_or_part b part None = b
bit_or_part b part (Some k) = slice_index_or part k b

-- the bits with a part written over them, whose bit at this place falls on the first one; what falls outside is dropped
abbrev pub bits_with : List Bit → List Bit → ℤ → List Bit
bits_with [] part from = []
bits_with (b ∷ bs) part from = bit_or_part b part (within (length part) from) ∷ bits_with bs part (from +ℤ pos 1)

-- the whole number of an index, if no bit of it is x or z
abbrev pub index : Bool → List Bit → Option ℤ
index signed bs = if all_known bs then Some (whole signed bs) else None

-- an index as the code has it
abbrev pub index_of : Option ℤ → Index
index_of None = variant.Strange
index_of (Some (pos n)) = variant.At n
index_of (Some (negsuc n)) = variant.Below

-- at another width, by its own sign, with this sign from then on
abbrev pub extended_vector : ℕ → Bool → Vector → Vector
extended_vector w signed v = record { bits = extend w v.signed v.bits; signed = signed }

-- the part of w bits from an offset up
abbrev pub selected_vector : ℤ → ℕ → Vector → Vector
selected_vector low w v = record { bits = bits_from v.bits low w; signed = false }

-- with a part written from an offset up
abbrev pub placed_vector : ℤ → Vector → Vector → Vector
placed_vector low part v = record { bits = bits_with v.bits part.bits (neg_ℤ low); signed = v.signed }

-- {high, low}
abbrev pub appended_vector : Vector → Vector → Vector
appended_vector high low = record { bits = low.bits ++ high.bits; signed = false }
