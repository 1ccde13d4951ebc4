-- Nothing is in doubt in the dump of a selfrun.
use Rattle.std.specs.Prelude.{ℕ}
use Rattle.event_machine.specs.Habit.{Free}
use Rattle.design_model.specs.Doubt.{IsInDoubt}
use Rattle.design_model.specs.Shows.{BoundDump}
use Rattle.design_model.specs.declared.point.Point.{Point}
use Rattle.state_machines.specs.Drawn.{IsPointWith}
use Rattle.state_machines.specs.Machines.{no_machines}
use Rattle.selfrun_design.specs.Selfrun.{selfrun}
use Rattle.selfrun_runs.specs.Says.{SaysSelfrun}

-- Certain law: at no time is a signal or memory in doubt for a point of the design.
abbrev pub CertainLaw : Type 0
CertainLaw =
    (number steps : ℕ) (dump : BoundDump) → SaysSelfrun number steps dump → (x : Point) → IsPointWith selfrun no_machines x → (t s : ℕ) → IsInDoubt selfrun Free dump x t s → ⊥
