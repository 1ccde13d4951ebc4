-- The runs of a closing step, in the order of a wake list.
use Rattle.std.specs.Prelude.{◌≡◌, ◌++◌, ℕ, Bool, false, filter, List, length, nat_lt, slice_index_or, Option, Some, None}
use Rattle.run_marks.specs.cover_points.Visits.{AreApart, AreOnce}
use Rattle.run_marks.specs.cover_points.declared.listing.Points.{Points}
use Rattle.design_model.specs.Design.{In}
use Rattle.settling.specs.replay_model.Step.{Closing, Working, is_touched}
use Rattle.run_order.specs.Ranked.{AreRanksOf}
use Rattle.settling.specs.wake_bits.declared.wakes.Wake.{Wake}
use Rattle.settling.specs.Runs.{IsStepOf}
use Rattle.settling.specs.Wakes.{HasWordChanges}
use Rattle.settling.specs.body_store.declared.store.Store.{Store}
use Rattle.settling.specs.step_parts.AtStep.{AtStep}
use Rattle.settling.specs.step_values.Vectors.{StepVectors}
use Rattle.early_sets.specs.WakeState.{WakeState}
use Rattle.run_marks.specs.cover_marks.declared.marks.Marks.{Marks}
use Rattle.step_words.specs.Words.{StepState}

-- a place is below a number
abbrev pub is_before : ℕ → Option ℕ → Bool
is_before n None = false
is_before n (Some place) = nat_lt place n

-- the process has a place that is below a number
abbrev pub is_ordered : List (Option ℕ) → ℕ → ℕ → Bool
is_ordered places n p = is_before n (slice_index_or places p None)

-- these processes run in a step, in order; each point is listed once and has a visit of its own, the places are those of the order, of
-- which so many are ordered, and the rows, the codes and the signals that have changed are those of the step for each process that runs
pub record IsRunOf (st : Closing) (ps : Points) (places : List (Option ℕ)) (count : ℕ) (running : List ℕ) (wake_rows : List (List Wake)) (codes : List (Option ℕ)) (changed : List ℕ) (now : ℕ) : Type 0 where
  pub apart : AreApart ps
  pub once : AreOnce ps
  pub ranked : AreRanksOf (st.tables.order ++ st.tables.last) (length st.design.processes) places
  pub ordered : count ≡ length st.tables.order
  pub listed : running ≡ filter (is_touched st) (st.tables.order ++ st.tables.last)
  pub step : (p : ℕ) → In p running → IsStepOf st p wake_rows codes changed now

-- the parts of the code are those of this state of the step, and so are the changes of words that were found
pub record AtRun (st : Closing) (ps : Points) (w : Working) (x : Store) (v : StepVectors) (found : StepState) (sets : WakeState) (flags : List Bool) (m : Marks) : Type 0 where
  pub step : AtStep st ps w x v sets flags m
  pub words : HasWordChanges st w.kept found
