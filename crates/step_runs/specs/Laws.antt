-- The rows of a design and the changes of a step are what the runs of its processes ask.
use Rattle.std.specs.Prelude.{◌≡◌, ℕ, suc, Bool, true, List, length, Option, None}
use Rattle.event_machine.specs.Habit.{Habit}
use Rattle.event_machine.specs.Cell.{Cell, Values as CellValues}
use Rattle.four_state.specs.declared.bit.Bit.{Bit}
use Rattle.design_model.specs.Design.{Design, IsClocked, is_memory, process_at}
use Rattle.design_model.specs.Lawful.{IsLawfulDesign}
use Rattle.design_model.specs.Shows.{BoundDump}
use Rattle.body_replay.specs.Runs.{Runs, runs_of}
use Rattle.code_values.specs.Values.{Values}
use Rattle.early_sets.specs.WakeState.{WakeState}
use Rattle.index_sets.specs.Rows.{row_at}
use Rattle.settling.specs.process_targets.Rows.{AreTargetRows}
use Rattle.settling.specs.process_targets.declared.bits.Bits.{Bits}
use Rattle.settling.specs.replay_model.Laws.{closing_at}
use Rattle.settling.specs.replay_model.Sets.{AreSets, Sets}
use Rattle.settling.specs.replay_model.Start.{started}
use Rattle.settling.specs.replay_model.Step.{Closing, Replay, all_run, clocked_run, settle_start}
use Rattle.settling.specs.step_values.Starts.{left_by_clocked}
use Rattle.settling.specs.Wakes.{HasWordChanges}
use Rattle.step_words.specs.Words.{StepState}
use Rattle.settling.specs.replay_model.Tables.{AreTables, Tables}
use Rattle.settling.specs.step_changes.Changes.{AreChangedSignals, IsDue}
use Rattle.settling.specs.step_values.Laws.{KnowsDump}
use Rattle.settling.specs.wake_bits.Wakes.{AreWakeRows}
use Rattle.settling.specs.wake_bits.declared.wakes.Wake.{Wake}
use Rattle.settling.specs.Runs.{HasRows, IsStepOf}
use Rattle.step_runs.specs.Rows.{AreWrittenRows}

-- what is made of a lawful design are the rows that its processes run with
abbrev pub RowsLaw : Type 0
RowsLaw =
    (d : Design) (bound : ℕ → Bool) (tables : Tables) (watched : List (List ℕ)) (targets : List (List Bits)) (written : List (List ℕ)) (wakes : List (List Wake))
    → IsLawfulDesign d → AreTables d bound tables → ((p : ℕ) → tables.watched p ≡ row_at watched p) → length watched ≡ length d.processes
    → AreTargetRows d targets → AreWrittenRows d written → AreWakeRows d watched wakes
    → HasRows d targets written wakes

-- where a step is due, the rows, the codes and the signals that have changed are those of the step for each Assign and Comb
abbrev pub StepsLaw : Type 0
StepsLaw =
    (d : Design) (h : Habit) (dump : BoundDump) (tables : Tables) (sets : Sets) (t : ℕ) (a : Replay) (flags : List Bool) (codes : List (Option ℕ)) (values : Values) (w : WakeState)
    (watched : List (List ℕ)) (wakes : List (List Wake)) (changed : List ℕ)
    → IsDue d dump (suc t) flags codes values w → AreTables d dump.bound tables → AreSets d h dump (suc t) sets → ((p : ℕ) → tables.watched p ≡ row_at watched p) → AreWakeRows d watched wakes
    → KnowsDump d dump.bound a.kept (dump.values t) → AreChangedSignals codes values changed
    → (p : ℕ) → (IsClocked (process_at d p) → ⊥) → IsStepOf (closing_at d dump (runs_of d) tables sets t a) p wakes codes changed (suc t)

-- how words have changed once the Clocked have run is how they have as the Assigns and Combs start
abbrev pub WordsLaw : Type 0
WordsLaw = (st : Closing) (words : StepState) → IsLawfulDesign st.design → AreTables st.design st.bound st.tables → HasWordChanges st (left_by_clocked st) words → HasWordChanges st (settle_start st (clocked_run st)).kept words

-- the Assigns and Combs leave the words that the Clocked have left
abbrev pub KeptWordsLaw : Type 0
KeptWordsLaw = (st : Closing) (c : Cell) → IsLawfulDesign st.design → AreTables st.design st.bound st.tables → is_memory st.design c.thing ≡ true → (all_run st).kept c ≡ left_by_clocked st c

-- the first step leaves nothing known of a word
abbrev pub FirstWordsLaw : Type 0
FirstWordsLaw =
    (d : Design) (bound : ℕ → Bool) (run : Runs) (tables : Tables) (new : CellValues Bit) (before : Replay) (c : Cell) → IsLawfulDesign d → AreTables d bound tables → is_memory d c.thing ≡ true
    → (started d bound run tables new before).kept c ≡ None
