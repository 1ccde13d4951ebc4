-- Where the toggle points of a signal that the dump has are hit.
use Rattle.std.specs.Prelude.{◌≡◌, ◌↔◌, ◌<◌, ◌-◌, ℕ, Bool, true, false}
use Rattle.event_machine.specs.Cell.{Cell}
use Rattle.event_machine.specs.Habit.{Habit}
use Rattle.four_state.specs.declared.bit.Bit.TheVariants.{One, Zero}
use Rattle.design_model.specs.Design.{Design, signal_at}
use Rattle.design_model.specs.Run.{IsRun, Run}
use Rattle.design_model.specs.Shows.{BoundDump, IsWindow, Shows}
use Rattle.design_model.specs.Points.{IsHit, toggle_cell, toggle_point}

-- in the dump the bit goes from 0 to 1 at this time, or from 1 to 0
abbrev pub TogglesAt : BoundDump → Cell → ℕ → Bool → Type 0
TogglesAt dump c t true = (dump.values (t - 1) c ≡ Zero) × (dump.values t c ≡ One)
TogglesAt dump c t false = (dump.values (t - 1) c ≡ One) × (dump.values t c ≡ Zero)

-- in a run that shows the dump, a toggle point of a bound signal is hit exactly where the dump toggles its bit in the window
abbrev pub ToggleLaw : Design → Habit → Type 0
ToggleLaw d h =
    (dump : BoundDump) (r : Run) (s i : ℕ) (rise : Bool) → IsRun d h r → Shows d dump r → dump.bound s ≡ true → 0 < (signal_at d s).width
    → IsHit d dump r (toggle_point s i rise) ↔ ((t : ℕ) × IsWindow dump t × TogglesAt dump (toggle_cell d s i) t rise)
