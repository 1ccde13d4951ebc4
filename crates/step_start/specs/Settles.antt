-- A step whose Clocked have run.
use Rattle.std.specs.Prelude.{◌≡◌, ◌↔◌, ℕ, true, List, is_some, slice_index_or, Option, None}
use Rattle.std.specs.List.{Contains}
use Rattle.code_values.specs.Values.{Values}
use Rattle.early_sets.specs.WakeState.{WakeState, state_of}
use Rattle.body_store.specs.declared.store.Store.{Store}
use Rattle.step_parts.specs.Due.{Due, HasFound, HaveClockedRun, IsDueStep}
use Rattle.step_parts.specs.cover_marks.declared.marks.Marks.{Marks}
use Rattle.step_start.specs.declared.room.StepRoom.{StepRoom}
use Rattle.step_start.specs.declared.room.StepTables.{StepTables}

-- the list has exactly those of the processes that have a place
abbrev pub ArePlaced : List (Option ℕ) → List ℕ → List ℕ → Type 0
ArePlaced ranks woken running = (p : ℕ) → Contains running p ↔ (Contains woken p × (is_some (slice_index_or ranks p None) ≡ true))

-- this holds of each step that was due, of which these parts were found, and whose Clocked have run and left this store
abbrev pub ForRun : StepTables → Values → StepRoom → List ℕ → Store → (Due → (ℕ → List ℕ) → Marks → Type 0) → Type 0
ForRun x given r ran left P =
    (due : Due) (early : ℕ → List ℕ) (wakes : WakeState) (listed : List ℕ) (begin : Store) (marks : Marks) → IsDueStep due x.codes.items x.order x.clocked wakes given begin
    → HasFound due (state_of r.sets) early listed r.values → HaveClockedRun due (state_of r.sets) early ran left marks → P due early marks
