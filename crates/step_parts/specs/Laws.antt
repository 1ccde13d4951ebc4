-- A step from its start to its end.
use Rattle.std.specs.Prelude.{◌≡◌, ◌++◌, ◌↔◌, ℕ, Bool, true, false, filter, List, Option}
use Rattle.event_machine.specs.Cell.{Cell}
use Rattle.signal_marks.specs.bit_changes.declared.toggles.Toggles.{Toggles}
use Rattle.step_changes.specs.body_replay.Runs.{AreRuns}
use Rattle.step_changes.specs.body_store.declared.store.Store.{Store}
use Rattle.clocked_laws.specs.Clocked.{MoveClocked, is_running}
use Rattle.clocked_laws.specs.Laws.{IsClockedCell}
use Rattle.step_changes.specs.code_values.Values.{Values}
use Rattle.signal_marks.specs.cover_marks.Marks.{AreMarksOf}
use Rattle.signal_marks.specs.cover_marks.declared.marks.Marks.{Marks}
use Rattle.mark_laws.specs.cover_points.declared.listing.Points.{Points}
use Rattle.signal_marks.specs.design_model.Design.{Design, In}
use Rattle.step_changes.specs.early_sets.Has.{is_in}
use Rattle.step_changes.specs.early_sets.WakeState.{WakeState}
use Rattle.mark_laws.specs.Marked.{AreVerdicts}
use Rattle.signal_marks.specs.point_marks.declared.verdict.Verdict.{Verdict}
use Rattle.mark_laws.specs.replay_model.Marks.{Marking}
use Rattle.mark_laws.specs.replay_model.Step.{Closing, all_run, clocked_run, contradicts, is_touched, settle_start}
use Rattle.step_changes.specs.replay_steps.Settling.{IsDumpStill, MoveTargets}
use Rattle.signal_marks.specs.Seen.{AreSeen}
use Rattle.step_changes.specs.step_values.Starts.{HasValues}
use Rattle.step_changes.specs.step_values.Vectors.{StepVectors}
use Rattle.step_parts.specs.AtStep.{AreActed, AtStep}
use Rattle.step_parts.specs.Due.{Due, HasBegun, HasFound, HaveClockedRun, IsDueStep, step_of}

-- where the dump's values are put in and what may not move stays, the parts of the code are those with which the first Assign or Comb runs
abbrev pub StartLaw : Type 0
StartLaw =
    (st : Closing) (ps : Points) (x : Store) (v : StepVectors) (sets : WakeState) (flags : List Bool) (m : Marks)
    → AreRuns st.design st.run → MoveClocked st → MoveTargets st → IsDumpStill st → ((s : ℕ) → st.sets.moves s ≡ is_in sets.moves s) → AreActed st.design flags st.start.acted
    → AreMarksOf ps m → AreVerdicts st.design ps (clocked_run st).notes m.verdicts
    → HasValues st (settle_start st (clocked_run st)) x v → AtStep st ps (settle_start st (clocked_run st)) x v sets flags m

-- the runs of processes only add to what was reported
abbrev pub NotedLaw : Type 0
NotedLaw = (st : Closing) → (more : List Marking) × ((all_run st).notes ≡ st.start.notes ++ more)

-- masks of what is marked already stay so where more is reported
abbrev pub SeenLaw : Type 0
SeenLaw =
    (d : Design) (ps : Points) (ms : List Toggles) (ns more : List Marking) (before after : List Verdict) → AreVerdicts d ps ns before → AreVerdicts d ps (ns ++ more) after
    → AreSeen d ps ms before → AreSeen d ps ms after

-- ---- a step that is due

-- the Clocked that are listed once its sets are found are those that run
abbrev pub ListedLaw : Type 0
ListedLaw =
    (due : Due) (codes ranks clocked_ranks : List (Option ℕ)) (before wakes : WakeState) (values : Values) (store : Store) (early : ℕ → List ℕ) (listed : List ℕ) (found : StepVectors)
    → IsDueStep due codes ranks clocked_ranks before values store → HasFound due wakes early listed found
    → (p : ℕ) → In p listed ↔ (In p due.tables.clocked × (is_running (step_of due wakes early) p ≡ true))

-- and of the Assigns and Combs those are woken that watch something that may move
abbrev pub TouchedLaw : Type 0
TouchedLaw =
    (due : Due) (codes ranks clocked_ranks : List (Option ℕ)) (before wakes : WakeState) (values : Values) (store : Store) (early : ℕ → List ℕ) (listed : List ℕ) (found : StepVectors)
    → IsDueStep due codes ranks clocked_ranks before values store → HasFound due wakes early listed found
    → (p : ℕ) → In p (due.tables.order ++ due.tables.last) → In p wakes.woken ↔ (is_touched (step_of due wakes early) p ≡ true)

-- once its Clocked have run it has begun, where what may not move stays, what they assign agrees with the dump, the touched are listed, and the dump's values are put in
abbrev pub BegunLaw : Type 0
BegunLaw =
    (due : Due) (codes ranks clocked_ranks : List (Option ℕ)) (before wakes : WakeState) (values : Values) (first left store : Store) (early : ℕ → List ℕ) (clocked ran listed : List ℕ)
    (found v : StepVectors) (marks : Marks)
    → IsDueStep due codes ranks clocked_ranks before values first → HasFound due wakes early clocked found → HaveClockedRun due wakes early ran left marks
    → IsDumpStill (step_of due wakes early) → ((c : Cell) → IsClockedCell due.design c → contradicts (step_of due wakes early) c ≡ false)
    → listed ≡ filter (is_touched (step_of due wakes early)) (due.tables.order ++ due.tables.last)
    → HasValues (step_of due wakes early) (settle_start (step_of due wakes early) (clocked_run (step_of due wakes early))) store v
    → HasBegun due wakes early listed v store marks
