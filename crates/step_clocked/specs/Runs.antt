-- The runs of the Clocked processes of a step, by its sets.
use Rattle.std.specs.Prelude.{◌≡◌, ◌<◌, ◌≤◌, ◌&&◌, ◌++◌, ℕ, Bool, true, List, [], filter, is_none, is_some, length, Option, Some}
use Rattle.std.specs.List.{Contains}
use Rattle.code_values.specs.Values.{Values}
use Rattle.design_model.specs.Design.{Design, In, body_at}
use Rattle.design_model.specs.Mentions.{body_assigns}
use Rattle.index_sets.specs.Rows.{row_at}
use Rattle.clocked_marks.specs.chosen_runs.Chosen.{IsDumpedStep}
use Rattle.clocked_marks.specs.chosen_runs.chosen_early.Shared.{IsEarlyList}
use Rattle.clocked_marks.specs.chosen_runs.chosen_early.early_sets.WakeState.{WakeState, is_single, trigger_of, waker_of}
use Rattle.clocked_marks.specs.chosen_runs.chosen_early.early_sets.Rounds.{round_at}
use Rattle.clocked_marks.specs.chosen_runs.chosen_early.early_sets.declared.habit.Habit.{Habit}
use Rattle.clocked_marks.specs.chosen_runs.clocked_block.OneRun.{IsRunBy}
use Rattle.clocked_marks.specs.chosen_runs.clocked_block.clocked_runs.block_runs.body_calls.Own.{is_in}
use Rattle.clocked_marks.specs.chosen_runs.clocked_block.clocked_runs.clocked_laws.Clocked.{is_running}
use Rattle.clocked_marks.specs.chosen_runs.clocked_block.entry_values.step_values.Loose.{has_code}
use Rattle.clocked_marks.specs.run_marks.cover_points.Visits.{AreApart, AreOnce}
use Rattle.clocked_marks.specs.run_marks.cover_points.declared.listing.Points.{Points}
use Rattle.replay_sets.specs.SetsOf.{AreChosen, round_of, sets_of}
use Rattle.replay_sets.specs.replay_model.Step.{Closing, in_rounds}
use Rattle.replay_sets.specs.wake_laws.OfDesign.{AreTablesOf}

-- by these sets the process is clean
abbrev pub runs_clean : WakeState → ℕ → Bool
runs_clean w p = is_some (trigger_of w p)

-- it is not
abbrev pub is_unclean : WakeState → ℕ → Bool
is_unclean w p = is_none (trigger_of w p)

-- it can wake
abbrev pub is_woken : WakeState → ℕ → Bool
is_woken w p = is_some (waker_of w p)

-- it can wake and is not clean
abbrev pub runs_weak : WakeState → ℕ → Bool
runs_weak w p = is_unclean w p && is_woken w p

-- the clean ones of these processes, in order of their rounds
abbrev pub clean_in_rounds : WakeState → List ℕ → List ℕ
clean_in_rounds w ps = in_rounds (round_of w) (filter (runs_clean w) ps)

-- of these processes first the clean ones, in order of their rounds, and then the others that can wake, in order
abbrev pub clean_first : WakeState → List ℕ → List ℕ
clean_first w ps = clean_in_rounds w ps ++ filter (runs_weak w) ps

-- the sets are those of a step of the design, and in it only signals that have a code are single
pub record AreStepSets (d : Design) (codes : List (Option ℕ)) (w : WakeState) : Type 0 where
  pub tables : AreTablesOf d w.tables
  pub single : (x : ℕ) → x < w.tables.things → is_single w x ≡ true → has_code codes x ≡ true
  pub numbers : (x : ℕ) → is_single w x ≡ true → round_at w x ≤ w.tables.things
  pub noted : (x : ℕ) → Contains w.noted x → x < w.tables.things

-- there is a row for each process, with the signals and memories that it assigns
pub record AreAssignedRows (d : Design) (rows : List (List ℕ)) : Type 0 where
  pub count : length rows ≡ length d.processes
  pub each : (p x : ℕ) → is_in (row_at rows p) x ≡ body_assigns x (body_at d p)

-- each process that can wake is in the list
abbrev pub HasWoken : WakeState → List ℕ → Type 0
HasWoken w listed = (p s : ℕ) → waker_of w p ≡ Some s → In p listed

-- for each clean process of the list these are what is early for it
abbrev pub AreChosenOf : WakeState → Habit → List ℕ → (ℕ → List ℕ) → Type 0
AreChosenOf w h listed early = (p s : ℕ) → In p listed → trigger_of w p ≡ Some s → IsEarlyList w h p s (early p)

-- the step with these codes and their values, at this time, whose sets are these with what is early for each clean process; each point is
-- listed once and has a visit of its own
pub record IsClockedStep (st : Closing) (ps : Points) (w : WakeState) (h : Habit) (codes : List (Option ℕ)) (values : Values) (time : ℕ) : Type 0 where
  pub apart : AreApart ps
  pub once : AreOnce ps
  pub by : IsRunBy st time
  pub dumped : IsDumpedStep st codes values
  pub early : ℕ → List ℕ
  pub chosen : AreChosen w h early
  pub sets : st.sets ≡ sets_of w early

-- in the step these Clocked processes run, in order: the list leaves out none that runs
pub record AreClockedOf (st : Closing) (listed : List ℕ) : Type 0 where
  pub test : ℕ → Bool
  pub filtered : listed ≡ filter test st.tables.clocked
  pub running : (p : ℕ) → In p st.tables.clocked → is_running st p ≡ true → test p ≡ true
