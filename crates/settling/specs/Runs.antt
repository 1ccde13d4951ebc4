-- What the run of a process takes, beside the definition of a step.
use Rattle.std.specs.Prelude.{◌≡◌, ◌<◌, ◌+◌, ◌&&◌, ◌||◌, ℕ, Bool, true, false, List, length, nat_lt, slice_index_or, Option}
use Rattle.std.specs.List.{All, list_any}
use Rattle.design_model.specs.Design.{Design, In, IsClocked, body_at, process_at}
use Rattle.design_model.specs.Mentions.{body_assigns, body_mentions}
use Rattle.body_store.specs.body_calls.Own.{is_in}
use Rattle.body_replay.specs.Contract.{Certainty, Outcome}
use Rattle.body_replay.specs.Runs.{runs_of}
use Rattle.body_store.specs.declared.store.Store.{Store}
use Rattle.early_sets.specs.WakeState.{WakeState}
use Rattle.index_sets.specs.Rows.{row_at}
use Rattle.settled_runs.specs.process_targets.Rows.{AreTargetRows}
use Rattle.settled_runs.specs.process_targets.declared.bits.Bits.{Bits}
use Rattle.step_parts.specs.replay_model.Step.{Closing, Working, certainty, dump_changes, is_clean_way, plain_store, settled_kept}
use Rattle.settled_runs.specs.replay_steps.Settling.{MoveTargets}
use Rattle.step_parts.specs.AtStep.{AreActed}
use Rattle.settled_targets.specs.step_values.Loose.{has_code}
use Rattle.settled_targets.specs.step_values.Vectors.{StepVectors}
use Rattle.wake_bits.specs.declared.wakes.Wake.{Wake}
use Rattle.settling.specs.Wakes.{HasState, HasWordChanges, IsWakeRow}
use Rattle.step_words.specs.Words.{StepState}

-- for each process there are the bits that it may write, the signals that an Assign or Comb assigns, and what it watches
pub record HasRows (d : Design) (target_rows : List (List Bits)) (written_rows : List (List ℕ)) (wake_rows : List (List Wake)) : Type 0 where
  pub targets : AreTargetRows d target_rows
  pub written_count : length written_rows ≡ length d.processes
  pub written : (p x : ℕ) → (IsClocked (process_at d p) → ⊥) → is_in (row_at written_rows p) x ≡ body_assigns x (body_at d p)
  pub wakes_count : length wake_rows ≡ length d.processes
  pub things : (p : ℕ) → All (λ w. w.thing < length d.signals + length d.memories) (row_at wake_rows p)

-- the rows, the codes and the signals that have changed are those of the step, for this process
pub record IsStepOf (st : Closing) (p : ℕ) (wake_rows : List (List Wake)) (codes : List (Option ℕ)) (changing : List ℕ) (now : ℕ) : Type 0 where
  pub runs : st.run ≡ runs_of st.design
  pub wakes : IsWakeRow st p (row_at wake_rows p)
  pub watched : (x : ℕ) → body_mentions x (body_at st.design p) ≡ true → In x (st.tables.watched p)
  pub bound : (s : ℕ) → st.bound s ≡ has_code codes s
  pub changed : (s : ℕ) → s < length st.design.signals → is_in changing s ≡ (st.bound s && dump_changes st s)
  pub time : st.time ≡ now
  pub moves : MoveTargets st

-- the store, the vectors that are set aside, the changes of words, the sets and the flags are those of the step at this point
pub record AtPoint (st : Closing) (w : Working) (x : Store) (v : StepVectors) (found : StepState) (sets : WakeState) (flags : List Bool) : Type 0 where
  pub state : HasState st w x v sets
  pub words : HasWordChanges st w.kept found
  pub acted : AreActed st.design flags w.acted

-- the outcome of the run of a process at this point of the step
abbrev pub outcome_at : Closing → Working → ℕ → Outcome
outcome_at st w p = st.run p (plain_store (settled_kept st.design p w.kept)) (certainty st w.kept p)

-- whether one of so many signals that the body mentions has changed, by what the process watches and the signals that have
abbrev pub sees_by : ℕ → List Wake → List ℕ → Bool
sees_by signals wakes changed = list_any (λ w. w.mentioned && (nat_lt w.thing signals && is_in changed w.thing)) wakes

-- whether a Comb has surely acted after a run of this certainty, by the flags before
abbrev pub acts_by : List Bool → ℕ → Certainty → ℕ → List Wake → List ℕ → Bool
acts_by flags p how signals wakes changed = slice_index_or flags p false || (is_clean_way how || sees_by signals wakes changed)
