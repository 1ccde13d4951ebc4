-- A closing step that is due, and what holds once it has begun.
use Rattle.std.specs.Prelude.{◌≡◌, ◌++◌, ℕ, Bool, suc, true, false, filter, List, length, Option}
use Rattle.event_machine.specs.Cell.{Cell}
use Rattle.signal_marks.specs.bit_changes.declared.toggles.Toggles.{Toggles}
use Rattle.step_changes.specs.body_replay.Runs.{AreRuns, Runs}
use Rattle.step_changes.specs.body_store.declared.store.Store.{Store}
use Rattle.clocked_laws.specs.Clocked.{is_running}
use Rattle.clocked_laws.specs.Laws.{IsClockedCell}
use Rattle.step_changes.specs.code_values.Values.{Values}
use Rattle.signal_marks.specs.cover_marks.Marks.{AreMarksOf}
use Rattle.signal_marks.specs.cover_marks.declared.marks.Marks.{Marks}
use Rattle.mark_laws.specs.cover_points.declared.listing.Points.{Points}
use Rattle.signal_marks.specs.design_model.Design.{Design, In}
use Rattle.signal_marks.specs.design_model.Shows.{BoundDump}
use Rattle.dump_check.specs.declared.order.Difference.{Difference}
use Rattle.step_changes.specs.early_sets.Has.{is_in}
use Rattle.step_changes.specs.early_sets.Rounds.{HasMoves}
use Rattle.step_changes.specs.early_sets.WakeState.{WakeState}
use Rattle.step_changes.specs.early_sets.declared.habit.Habit.{Habit}
use Rattle.mark_laws.specs.Marked.{AreVerdicts}
use Rattle.mark_laws.specs.replay_model.Laws.{closing_at}
use Rattle.mark_laws.specs.replay_model.Sets.{AreSets}
use Rattle.mark_laws.specs.replay_model.Step.{Closing, Replay, clocked_run, contradicts, is_touched, settle_start}
use Rattle.mark_laws.specs.replay_model.Tables.{AreTables, Tables}
use Rattle.step_changes.specs.replay_sets.SetsOf.{AreChosen, sets_of}
use Rattle.step_changes.specs.replay_steps.Settling.{IsDumpStill}
use Rattle.run_order.specs.Ranked.{AreRanksOf}
use Rattle.step_changes.specs.Changes.{IsDue}
use Rattle.step_changes.specs.step_values.Laws.{KnowsDump}
use Rattle.step_changes.specs.step_values.Starts.{left_by_clocked}
use Rattle.step_changes.specs.step_values.Vectors.{AreKnownBits, FitsSignals, StepVectors}
use Rattle.step_changes.specs.step_wakes.Step.{IsOfDesign}
use Rattle.step_changes.specs.store_knowledge.Knows.{Knows}
use Rattle.step_changes.specs.wake_laws.Laws.{habit_of}
use Rattle.step_parts.specs.AtStep.{AtRest, AtStep}

-- a step of a dump that is to be closed: by these runs of bodies and tables, from what the replay knows at time t to the time after it
pub record Due : Type 0 where
  pub design : Design
  pub habit : Habit
  pub dump : BoundDump
  pub run : Runs
  pub tables : Tables
  pub points : Points
  pub time : ℕ
  pub replay : Replay
  pub flags : List Bool  -- for each signal whether the dump has it
  pub acted : List Bool  -- which Combs have surely acted
  pub marks : Marks
  pub seen : List Toggles  -- what is marked already

-- the parts of the code are those of this step: the code of each signal, the places of the Assigns and Combs and of the Clocked in
-- their orders, the sets as they were, the values of codes and the store
pub record IsDueStep (due : Due) (codes ranks clocked_ranks : List (Option ℕ)) (wakes : WakeState) (values : Values) (store : Store) : Type 0 where
  pub changes : IsDue due.design due.dump (suc due.time) due.flags codes values wakes
  pub runs : AreRuns due.design due.run
  pub tabled : AreTables due.design due.dump.bound due.tables
  pub ranked : AreRanksOf (due.tables.order ++ due.tables.last) (length due.design.processes) ranks
  pub clocked : AreRanksOf due.tables.clocked (length due.design.processes) clocked_ranks
  pub rest : AtRest due.design due.points due.replay store due.acted due.marks due.seen
  pub known : KnowsDump due.design due.dump.bound due.replay.kept (due.dump.values due.time)

-- the step with the sets that were found, and with what is early for its clean blocks
abbrev pub step_of : Due → WakeState → (ℕ → List ℕ) → Closing
step_of due wakes early = closing_at due.design due.dump due.run due.tables (sets_of wakes early) due.time due.replay

-- these sets are those of the step, those of its Clocked are listed in order that can wake, and of what may move is set aside what was known
pub record HasFound (due : Due) (wakes : WakeState) (early : ℕ → List ℕ) (waking : List ℕ) (vectors : StepVectors) : Type 0 where
  pub sets : AreSets due.design (habit_of due.habit) due.dump (suc due.time) (sets_of wakes early)
  pub chosen : AreChosen wakes due.habit early
  pub tables : IsOfDesign due.design due.flags wakes
  pub moves : HasMoves wakes
  pub listed : waking ≡ filter (is_in wakes.woken) due.tables.clocked
  pub fits : FitsSignals due.design vectors
  pub before : AreKnownBits due.design due.replay.kept wakes.moves vectors.before
  pub made : AreKnownBits due.design due.replay.kept wakes.moves vectors.made

-- its Clocked have run, these among them, and what they queued is made
pub record HaveClockedRun (due : Due) (wakes : WakeState) (early : ℕ → List ℕ) (ran : List ℕ) (store : Store) (reported : Marks) : Type 0 where
  pub running : (p : ℕ) → In p due.tables.clocked → is_running (step_of due wakes early) p ≡ true → In p ran
  pub clocked : (p : ℕ) → In p ran → In p due.tables.clocked
  pub knows : Knows due.design (left_by_clocked (step_of due wakes early)) store
  pub points : AreMarksOf due.points reported
  pub marks : AreVerdicts due.design due.points (clocked_run (step_of due wakes early)).notes reported.verdicts

-- these sets are those of the step, the other processes to run are listed in order, and the store, the vectors and the marks are those
-- with which the first of them runs
pub record HasBegun (due : Due) (wakes : WakeState) (early : ℕ → List ℕ) (listed : List ℕ) (vectors : StepVectors) (store : Store) (marks : Marks) : Type 0 where
  pub sets : AreSets due.design (habit_of due.habit) due.dump (suc due.time) (sets_of wakes early)
  pub still : IsDumpStill (step_of due wakes early)
  pub list : listed ≡ filter (is_touched (step_of due wakes early)) (due.tables.order ++ due.tables.last)
  pub parts : AtStep (step_of due wakes early) due.points (settle_start (step_of due wakes early) (clocked_run (step_of due wakes early))) store vectors wakes due.acted marks
  -- what a Clocked assigns agrees with the dump
  pub agree : (c : Cell) → IsClockedCell due.design c → contradicts (step_of due wakes early) c ≡ false

-- these sets are those of the step, and some bit of the signal contradicts it
pub record IsContradicted (due : Due) (wakes : WakeState) (early : ℕ → List ℕ) (found : Difference) : Type 0 where
  pub sets : AreSets due.design (habit_of due.habit) due.dump (suc due.time) (sets_of wakes early)
  pub cell : Cell
  pub signal : cell.thing ≡ found.signal
  pub differs : contradicts (step_of due wakes early) cell ≡ true
