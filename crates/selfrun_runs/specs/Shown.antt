-- A run of the design that shows what the dump says.
use Rattle.std.specs.Prelude.{ℕ}
use Rattle.event_machine.specs.Habit.{Free}
use Rattle.design_model.specs.Run.{IsRun, Run}
use Rattle.design_model.specs.Shows.{BoundDump, Shows}
use Rattle.selfrun_design.specs.Selfrun.{selfrun}
use Rattle.selfrun_runs.specs.Says.{SaysSelfrun}

-- Shown law: some run of the design, whose inputs move freely, shows what the dump of a selfrun says.
abbrev pub SelfrunShownLaw : Type 0
SelfrunShownLaw = (number steps : ℕ) (dump : BoundDump) → SaysSelfrun number steps dump → (r : Run) × IsRun selfrun Free r × Shows selfrun dump r
