-- Each point is decided where nothing is in doubt for it, whatever its blocks are and whatever they are sensitive to.
use Rattle.std.specs.Prelude.{◌⊎◌}
use Rattle.design_model.specs.event_machine.Habit.{Habit}
use Rattle.design_model.specs.Design.{Design}
use Rattle.design_model.specs.declared.point.Point.{Point}
use Rattle.design_model.specs.DecidedLaw.{IsBlockPoint, IsDecided, IsSignalPoint}

-- Decided law: at a window time at which nothing is in doubt for a point, two runs that show the dump do not differ in whether it is hit.
abbrev pub DecidedLaw : Design → Habit → Type 0
DecidedLaw d h = (x : Point) → IsSignalPoint d x ⊎ IsBlockPoint d x → IsDecided d h x
