-- What is sure of two bits, and of how a bit changes.
use Rattle.std.specs.Prelude.{ℕ, Bool, false, not, ◌&&◌, List, Option, Some, None, slice_index_or}
use Rattle.std.specs.Option.{unwrap_or}
use Rattle.four_state.specs.declared.bit.Bit.{Bit}
use Rattle.four_state.specs.declared.bit.Bit.TheVariants.{Zero, One}
use Rattle.four_state.specs.Vector.{same_bit}

-- the bit at a place, which is not sure past the end
abbrev pub bit_at : List (Option Bit) → ℕ → Option Bit
bit_at ps i = slice_index_or ps i None

-- the bit, or 0 where it is not sure
abbrev pub or_zero : Option Bit → Bit
or_zero p = unwrap_or p Zero

-- whether two known bits surely differ
abbrev pub surely_differ : Option Bit → Option Bit → Bool
surely_differ (Some a) (Some b) = not (same_bit a b)
surely_differ _ _ = false

-- whether two known bits are surely the same
abbrev pub surely_same : Option Bit → Option Bit → Bool
surely_same (Some a) (Some b) = same_bit a b
surely_same _ _ = false

-- whether a known bit may be this one
abbrev pub bit_may_be : Option Bit → Bit → Bool
bit_may_be p b = not (surely_differ p (Some b))

-- whether a bit surely goes from 0 to 1
abbrev pub surely_rises : Option Bit → Option Bit → Bool
surely_rises p q = surely_same p (Some Zero) && surely_same q (Some One)

-- whether a bit surely goes from 1 to 0
abbrev pub surely_falls : Option Bit → Option Bit → Bool
surely_falls p q = surely_same p (Some One) && surely_same q (Some Zero)

-- whether a bit may go from 0 to 1
abbrev pub may_rise : Option Bit → Option Bit → Bool
may_rise p q = bit_may_be p Zero && bit_may_be q One

-- whether a bit may go from 1 to 0
abbrev pub may_fall : Option Bit → Option Bit → Bool
may_fall p q = bit_may_be p One && bit_may_be q Zero
