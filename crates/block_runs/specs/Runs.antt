-- The runs of blocks are the runs that the replay of a dump takes.
use Rattle.std.specs.Prelude.{◌≡◌, ℕ}
use Rattle.design_model.specs.Design.{Design, process_at}
use Rattle.design_model.specs.Lawful.{IsLawfulDesign}
use Rattle.body_replay.specs.Runs.{AreRuns, Runs}
use Rattle.term_replay.specs.Stands.{Scene}
use Rattle.body_calls.specs.Under.{Under}
use Rattle.block_runs.specs.Met.{met, outcome_on}
use Rattle.block_runs.specs.Notes.{way_of}
use Rattle.block_runs.specs.declared.certainty.Certainty.{Certainty}

-- the outcomes of the processes of a design, on any store, are these runs
abbrev pub AreOutcomes : Design → Runs → Type 0
AreOutcomes d run = (p : ℕ) (u : Under) (v : Scene) (how : Certainty) → v.design ≡ d → outcome_on u v (process_at d p) how ≡ run p (met u v) (way_of how)

-- those of a lawful design keep all that the replay takes from the runs of bodies
abbrev pub OutcomesLaw : Type 0
OutcomesLaw = (d : Design) → IsLawfulDesign d → (run : Runs) × AreRuns d run × AreOutcomes d run
