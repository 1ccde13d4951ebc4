-- The executions that count for coverage.
use Rattle.std.specs.Prelude.{◌≡◌, ◌≢◌, ◌∷◌, ◌++◌, ℕ, List, []}
use Rattle.event_machine.specs.Cell.{Cell, Values}
use Rattle.event_machine.specs.Machine.{IsWakeCell}
use Rattle.four_state.specs.declared.bit.Bit.{Bit}
use Rattle.design_model.specs.Tree.{Process, clocked}
use Rattle.design_model.specs.Design.{Design, In, body_at, process_at}
use Rattle.design_model.specs.Execution.{Visit, execution}
use Rattle.design_model.specs.Machine.{machine}
use Rattle.design_model.specs.Run.{Run, StepOf, end_of, evaluations_of, start_of}

-- the settled value of the cell changes over the step
abbrev pub ChangesOver : Design → (r : Run) → StepOf r → Cell → Type 0
ChangesOver d r k c = (start_of d r k).values c ≢ (end_of d r k).values c

-- an execution on v counts: of a Clocked each, else the last of a step over which a wake bit, or a word of a memory that it mentions, changes
abbrev pub IsScoredOf : Process → Design → (r : Run) → StepOf r → ℕ → Values Bit → Type 0
IsScoredOf (clocked i events s) d r k p v = In v (evaluations_of d r k p)
IsScoredOf _ d r k p v = ((earlier : List (Values Bit)) × (evaluations_of d r k p ≡ earlier ++ v ∷ [])) × ((c : Cell) × IsWakeCell (machine d) p c × ChangesOver d r k c)

-- an execution of process p on v counts
abbrev pub IsScored : Design → (r : Run) → StepOf r → ℕ → Values Bit → Type 0
IsScored d r k p v = IsScoredOf (process_at d p) d r k p v

-- a scored execution of process p in this step visits x
abbrev pub VisitsIn : Design → (r : Run) → StepOf r → ℕ → Visit → Type 0
VisitsIn d r k p x = (v : Values Bit) × IsScored d r k p v × In x (execution d (body_at d p) v).visits
