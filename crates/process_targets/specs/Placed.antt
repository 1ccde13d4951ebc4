-- The places of signals in a row.
use Rattle.std.specs.Prelude.{◌≡◌, ◌<◌, ℕ, false, List, length, slice_index, slice_index_or, Option, Some, None}
use Rattle.process_targets.specs.Targets.{names}
use Rattle.process_targets.specs.declared.bits.Bits.{Bits}

-- in place of bits that a row does not have
abbrev pub no_bits : Bits
no_bits = record { signal = 0; mask = 0 }

-- each signal of the row has its place there
abbrev pub ArePlaced : List Bits → List ℕ → Type 0
ArePlaced row places = (k : ℕ) → k < length row → slice_index places (slice_index_or row k no_bits).signal ≡ k

-- the signal is in the row at this place, or nowhere
abbrev pub IsPlaceOf : List Bits → ℕ → Option ℕ → Type 0
IsPlaceOf row s None = names row s ≡ false
IsPlaceOf row s (Some k) = (k < length row) × ((slice_index_or row k no_bits).signal ≡ s)
