-- States with one value.
use Rattle.std.specs.Prelude.{◌≡◌, ◌<◌, ℕ, true, false, List, [], length, slice_index_or}
use Rattle.four_state.specs.Vector.{Vector, same_bits}
use Rattle.four_state.specs.declared.bit.Bit.{Bit}

-- what a list gives past its end
abbrev pub no_value : Vector
no_value = record { bits = []; signed = false }

-- the bits of the value at this place
abbrev pub bits_at : List Vector → ℕ → List Bit
bits_at vs k = (slice_index_or vs k no_value).bits

-- the value at this place is the same as an earlier one
abbrev pub HasBefore : List Vector → ℕ → Type 0
HasBefore vs k = (j : ℕ) × (j < k) × (same_bits (bits_at vs j) (bits_at vs k) ≡ true)

-- it is the first such place
abbrev pub IsFirstSame : List Vector → ℕ → Type 0
IsFirstSame vs k = (k < length vs) × HasBefore vs k × ((i : ℕ) → i < k → HasBefore vs i → ⊥)
