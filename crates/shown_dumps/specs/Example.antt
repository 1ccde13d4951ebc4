-- A body of four stretches, of which the last is on.
use Rattle.std.specs.Prelude.{◌≡◌, ℕ, true, false, List, [], ◌∷◌, map, None, Some}
use Rattle.four_state.specs.Vector.{Vector}
use Rattle.four_state.specs.declared.Bit.{Bit}
use Rattle.four_state.specs.declared.Bit.TheVariants.{Zero, One}
use Rattle.vcd_reader.specs.Dump.{DumpStep, stretches_of, value_at}
use Rattle.vcd_reader.specs.Order.{is_on}
use Rattle.vcd_reader.specs.declared.entry.Entry.{Entry}
use Rattle.vcd_reader.specs.declared.entry.Entry.TheVariants.{Off, On, Time, Value}
use Rattle.shown_dumps.specs.Said.{ended_at, ended_stretches, open_stretch, times_in}
use Rattle.shown_dumps.specs.Shown.{stretch_at}

-- a value of one bit
abbrev pub one_bit : Bit → Vector
one_bit bit = record { bits = bit ∷ []; signed = false }

-- it goes off before the first time, from 7 to 20, and from 20 to 20
abbrev pub example_entries : List Entry
example_entries = Off ∷ On None ∷ Value 0 (one_bit One) ∷ Time 3 ∷ Time 7 ∷ Off ∷ On (Some 20) ∷ Off ∷ On (Some 20) ∷ Value 0 (one_bit Zero) ∷ Time 25 ∷ []

-- a step without changes, and one with a change of code 0
abbrev pub still : ℕ → DumpStep
still time = record { time = time; changes = [] }

abbrev pub changed : ℕ → Bit → DumpStep
changed time bit = record { time = time; changes = record { code = 0; value = one_bit bit } ∷ [] }

-- its stretches, the first without a time, the third with one
pub record IsExample : Type 0 where
  pub on : is_on example_entries ≡ true
  pub stretches : stretches_of example_entries ≡ [] ∷ (changed 3 One ∷ still 7 ∷ []) ∷ (still 20 ∷ []) ∷ (changed 20 Zero ∷ still 25 ∷ []) ∷ []
  pub ended : map times_in (ended_stretches example_entries) ≡ [] ∷ (3 ∷ 7 ∷ []) ∷ (20 ∷ []) ∷ []
  pub last : times_in (open_stretch example_entries) ≡ 20 ∷ 25 ∷ []
  pub end : ended_at example_entries ≡ 7
  pub before : value_at (stretch_at (stretches_of example_entries) 6) 0 6 ≡ Some (one_bit One)
  pub after : value_at (stretch_at (stretches_of example_entries) 20) 0 20 ≡ Some (one_bit Zero)
