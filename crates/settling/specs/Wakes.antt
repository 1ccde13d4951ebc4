-- What wakes a process in a step, and the parts of the code beside the definition of the step.
use Rattle.std.specs.Prelude.{◌≡◌, ℕ, List, map}
use Rattle.design_model.specs.Design.{In, body_at}
use Rattle.body_replay.specs.Store.{Kept}
use Rattle.step_words.specs.Words.{AreWordChanges, StepState}
use Rattle.design_model.specs.Mentions.{blocking_target, body_mentions}
use Rattle.early_sets.specs.Has.{is_in}
use Rattle.early_sets.specs.WakeState.{WakeState}
use Rattle.body_store.specs.declared.store.Store.{Store}
use Rattle.step_parts.specs.replay_model.Step.{Closing, Working}
use Rattle.settled_runs.specs.replay_steps.Settling.{IsStillAt}
use Rattle.settled_targets.specs.step_values.Starts.{HasValues}
use Rattle.settled_targets.specs.step_values.Vectors.{StepVectors}
use Rattle.wake_bits.specs.Wakes.{AreWakes}
use Rattle.wake_bits.specs.declared.wakes.Wake.{Wake}

-- the row has what process p watches, in the order of the tables, with the bits that it does not itself write and whether it mentions it
abbrev pub IsWakeRow : Closing → ℕ → List Wake → Type 0
IsWakeRow st p row = AreWakes st.design (blocking_target st.design (body_at st.design p)) (λ x. body_mentions x (body_at st.design p)) (st.tables.watched p) row

-- the things of a row
abbrev pub things_of : List Wake → List ℕ
things_of row = map (λ w. w.thing) row

-- the store, the vectors that are set aside and the sets are those of the step at this point
pub record HasState (st : Closing) (w : Working) (x : Store) (v : StepVectors) (sets : WakeState) : Type 0 where
  pub values : HasValues st w x v
  pub still : IsStillAt st w
  pub moves : (s : ℕ) → st.sets.moves s ≡ is_in sets.moves s

-- some process watches the signal or memory
abbrev pub IsWatched : Closing → ℕ → Type 0
IsWatched st m = (p : ℕ) × In m (st.tables.watched p)

-- of each memory that a process watches it is found how its words have changed from the start of the step to what is kept
abbrev pub HasWordChanges : Closing → Kept → StepState → Type 0
HasWordChanges st k x = AreWordChanges st.design (IsWatched st) st.start.kept k x
