-- What follows of a step whether what was made of a signal differs from what the dump says.
use Rattle.std.specs.Prelude.{◌≡◌, ◌<◌, ◌++◌, ◌↔◌, ℕ, true, false, List, flat_map, length, Option}
use Rattle.std.specs.List.{All}
use Rattle.event_machine.specs.Cell.{Cell}
use Rattle.clocked_laws.specs.Clocked.{IsInputOrWritten}
use Rattle.clocked_laws.specs.Laws.{IsClockedCell}
use Rattle.four_state.specs.Vector.{Vector}
use Rattle.design_model.specs.Design.{In}
use Rattle.design_model.specs.Lawful.{IsLawfulDesign}
use Rattle.step_changes.specs.body_store.declared.store.Store.{Store}
use Rattle.dump_check.specs.Checks.{AgreesAt, IsFirstDifference, last_of_each}
use Rattle.dump_check.specs.declared.order.Difference.{Difference}
use Rattle.index_sets.specs.Rows.{row_at}
use Rattle.process_targets.specs.Rows.{AreTargetRows}
use Rattle.process_targets.specs.declared.bits.Bits.{Bits}
use Rattle.step_changes.specs.replay_model.Step.{Closing, all_run, contradicts, is_touched}
use Rattle.step_changes.specs.replay_model.Tables.{AreTables}
use Rattle.step_changes.specs.replay_steps.Settling.{IsDumpStill, IsStillAt, MoveTargets}
use Rattle.step_changes.specs.step_values.Dumped.{AreDumped}
use Rattle.step_changes.specs.step_values.Loose.{has_code}
use Rattle.step_changes.specs.step_values.Starts.{HasValues}
use Rattle.step_changes.specs.step_values.Vectors.{StepVectors}
use Rattle.step_check.specs.Checks.{AreCheckRows}

-- the processes of a step have run, these Assigns and Combs among them, no bit of what a Clocked assigns contradicts the step, and these are the lists of the code
pub record HasRun (st : Closing) (ran : List ℕ) (targets : List (List Bits)) (checks : List (List ℕ)) (codes : List (Option ℕ)) (last : List (Option Vector)) (x : Store) (v : StepVectors) : Type 0 where
  pub values : HasValues st (all_run st) x v
  pub still : IsStillAt st (all_run st)
  pub dump : IsDumpStill st
  pub moved : (s : ℕ) → st.sets.moves s ≡ true → IsInputOrWritten st s
  pub agree : (c : Cell) → IsClockedCell st.design c → contradicts st c ≡ false
  pub drives : MoveTargets st
  pub lawful : IsLawfulDesign st.design
  pub tabled : AreTables st.design st.bound st.tables
  pub running : (p : ℕ) → In p ran ↔ (In p (st.tables.order ++ st.tables.last) × (is_touched st p ≡ true))
  pub rows : AreTargetRows st.design targets
  pub checked : AreCheckRows codes targets checks
  pub bound : (s : ℕ) → st.bound s ≡ has_code codes s
  pub signals : (s : ℕ) → st.bound s ≡ true → s < length st.design.signals
  pub dumped : AreDumped st.design codes last st.new

-- where what was made of each signal that was checked allows what the dump says, nothing contradicts the step
abbrev pub AgreeLaw : Type 0
AgreeLaw =
    (st : Closing) (ran : List ℕ) (targets : List (List Bits)) (checks : List (List ℕ)) (codes : List (Option ℕ)) (last : List (Option Vector)) (x : Store) (v : StepVectors)
    → HasRun st ran targets checks codes last x v → All (AgreesAt codes last v.made) (last_of_each (flat_map (row_at checks) ran))
    → (c : Cell) → contradicts st c ≡ false

-- a signal that was checked, of which something else was made than what the dump says, contradicts the step in some bit
abbrev pub DifferLaw : Type 0
DifferLaw =
    (st : Closing) (ran : List ℕ) (targets : List (List Bits)) (checks : List (List ℕ)) (codes : List (Option ℕ)) (last : List (Option Vector)) (x : Store) (v : StepVectors) (found : Difference)
    → HasRun st ran targets checks codes last x v → IsFirstDifference codes last v.made (last_of_each (flat_map (row_at checks) ran)) found
    → (c : Cell) × (c.thing ≡ found.signal) × (contradicts st c ≡ true)
