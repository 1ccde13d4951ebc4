-- What the Clocked processes of a step leave.
use Rattle.std.specs.Prelude.{◌≡◌, ◌&&◌, ◌++◌, ℕ, Bool, suc, true, false, List, filter, is_some, Option, Some}
use Rattle.event_machine.specs.Cell.{Cell}
use Rattle.event_machine.specs.Habit.{Habit}
use Rattle.replay_steps.specs.replay_model.design_model.Design.{Design, In, IsClocked, body_at, is_number, process_at}
use Rattle.replay_steps.specs.replay_model.design_model.Lawful.{IsLawfulDesign}
use Rattle.replay_steps.specs.replay_model.design_model.Mentions.{body_assigns}
use Rattle.replay_steps.specs.replay_model.design_model.Shows.{BoundDump}
use Rattle.replay_steps.specs.replay_model.body_replay.Replay.{flush}
use Rattle.replay_steps.specs.replay_model.body_replay.Runs.{AreRuns, Runs}
use Rattle.replay_steps.specs.replay_model.Laws.{closing_at}
use Rattle.replay_steps.specs.replay_model.Marks.{Marking}
use Rattle.replay_steps.specs.replay_model.Sets.{AreSets, Sets}
use Rattle.replay_steps.specs.replay_model.Step.{Closing, Replay, Working, all_run, clocked_run, contradicts, in_rounds, is_dumped, is_loose, is_target, opened, run_all_clean, run_all_weak, run_clean, run_weak, settle_start, surely_differ, with_dump}
use Rattle.replay_steps.specs.replay_model.Tables.{AreTables, Tables}
use Rattle.replay_steps.specs.Blank.{DrivesCells, HasDumpCells, IsBlank}
use Rattle.replay_steps.specs.Settling.{IsDumpStill, IsStillAt, MoveTargets}
use Rattle.run_cells.specs.Cells.{KeepsCell, StaysInside}
use Rattle.clocked_laws.specs.Clocked.{IsAsAtStart, IsInputOrWritten, IsUnwritten, MoveClocked, is_clean, is_running, is_weak}

-- ---- which of them run, and in what order

-- those that a test leaves out change nothing, where none of them runs clean
abbrev pub CleanFilterLaw : Type 0
CleanFilterLaw =
    (st : Closing) (f : ℕ → Bool) (ps : List ℕ) (w : Working) → ((p : ℕ) → In p ps → is_clean st p ≡ true → f p ≡ true)
    → run_all_clean st ps w ≡ run_all_clean st (filter f ps) w

-- those that a test leaves out change nothing, where none of them runs weak
abbrev pub WeakFilterLaw : Type 0
WeakFilterLaw =
    (st : Closing) (f : ℕ → Bool) (ps : List ℕ) (w : Working) → ((p : ℕ) → In p ps → is_weak st p ≡ true → f p ≡ true)
    → run_all_weak st ps w ≡ run_all_weak st (filter f ps) w

-- nor do they where the list is put in order of rounds
abbrev pub CleanOrderLaw : Type 0
CleanOrderLaw =
    (st : Closing) (round : ℕ → ℕ) (f : ℕ → Bool) (ps : List ℕ) (w : Working) → ((p : ℕ) → In p ps → is_clean st p ≡ true → f p ≡ true)
    → run_all_clean st (in_rounds round ps) w ≡ run_all_clean st (in_rounds round (filter f ps)) w

-- of the Clocked those that are left out by a test change nothing where none of them runs
abbrev pub ClockedFilterLaw : Type 0
ClockedFilterLaw =
    (st : Closing) (f : ℕ → Bool) → ((p : ℕ) → In p st.tables.clocked → is_running st p ≡ true → f p ≡ true)
    → clocked_run st ≡ run_all_weak st (filter f st.tables.clocked) (run_all_clean st (in_rounds st.sets.round (filter f st.tables.clocked)) (opened st))

-- the clean ones of two lists run one list after the other
abbrev pub CleanAppendLaw : Type 0
CleanAppendLaw = (st : Closing) (ps qs : List ℕ) (w : Working) → run_all_clean st (ps ++ qs) w ≡ run_all_clean st qs (run_all_clean st ps w)

-- and so do the weak ones
abbrev pub WeakAppendLaw : Type 0
WeakAppendLaw = (st : Closing) (ps qs : List ℕ) (w : Working) → run_all_weak st (ps ++ qs) w ≡ run_all_weak st qs (run_all_weak st ps w)

-- by the sets of a step a Clocked runs exactly where it can wake
abbrev pub ClockedRunningLaw : Type 0
ClockedRunningLaw =
    (d : Design) (h : Habit) (dump : BoundDump) (run : Runs) (tables : Tables) (sets : Sets) (t : ℕ) (a : Replay) → AreSets d h dump (suc t) sets
    → (p : ℕ) → is_running (closing_at d dump run tables sets t a) p ≡ is_some (sets.wakes p)

-- ---- what they leave alone

-- what has surely acted is as at the start of the step
abbrev pub ClockedActedLaw : Type 0
ClockedActedLaw = (st : Closing) → (clocked_run st).acted ≡ st.start.acted

-- what was made of each cell is what was known at the start of the step
abbrev pub ClockedUnmadeLaw : Type 0
ClockedUnmadeLaw = (st : Closing) → (clocked_run st).made ≡ st.start.kept

-- what they report is added to what was reported before
abbrev pub ClockedNotesLaw : Type 0
ClockedNotesLaw = (st : Closing) → (more : List Marking) × ((clocked_run st).notes ≡ st.start.notes ++ more)

-- by the sets of a step a Clocked that runs may write only what may move
abbrev pub ClockedTargetLaw : Type 0
ClockedTargetLaw =
    (d : Design) (h : Habit) (dump : BoundDump) (run : Runs) (tables : Tables) (sets : Sets) (t : ℕ) (a : Replay) → AreSets d h dump (suc t) sets
    → MoveClocked (closing_at d dump run tables sets t a)

-- by the sets of a step of a lawful design what may move is an input, or is written by a process that runs
abbrev pub ClockedMovesLaw : Type 0
ClockedMovesLaw =
    (d : Design) (h : Habit) (dump : BoundDump) (run : Runs) (tables : Tables) (sets : Sets) (t : ℕ) (a : Replay) → IsLawfulDesign d → AreTables d dump.bound tables
    → AreSets d h dump (suc t) sets → (s : ℕ) → sets.moves s ≡ true → IsInputOrWritten (closing_at d dump run tables sets t a) s

-- ---- what they leave of a cell

-- a process that may not write a cell leaves it
abbrev pub UntargetedLaw : Type 0
UntargetedLaw = (d : Design) (run : Runs) (p : ℕ) (c : Cell) → AreRuns d run → is_target d p c ≡ false → KeepsCell run p c

-- a cell that each Clocked which runs leaves is as it was at the start of the step
abbrev pub ClockedKeepLaw : Type 0
ClockedKeepLaw = (st : Closing) (c : Cell) → ((p : ℕ) → In p st.tables.clocked → is_running st p ≡ true → KeepsCell st.run p c) → IsAsAtStart st (clocked_run st) c

-- what may not move is as it was at the start of the step
abbrev pub ClockedStillLaw : Type 0
ClockedStillLaw = (st : Closing) → AreRuns st.design st.run → MoveClocked st → (c : Cell) → st.sets.moves c.thing ≡ false → IsAsAtStart st (clocked_run st) c

-- it is so too as the first Assign or Comb runs
abbrev pub ClockedStartStillLaw : Type 0
ClockedStartStillLaw = (st : Closing) → AreRuns st.design st.run → MoveClocked st → MoveTargets st → IsDumpStill st → IsStillAt st (settle_start st (clocked_run st))

-- and after all of them
abbrev pub ClockedAllStillLaw : Type 0
ClockedAllStillLaw = (st : Closing) → AreRuns st.design st.run → MoveClocked st → MoveTargets st → IsDumpStill st → IsStillAt st (all_run st)

-- what is made of it in the step is what was known, whatever the dump says
abbrev pub ClockedStillMadeLaw : Type 0
ClockedStillMadeLaw = (st : Closing) → AreRuns st.design st.run → MoveClocked st → MoveTargets st → (c : Cell) → st.sets.moves c.thing ≡ false → (all_run st).made c ≡ st.start.kept c

-- a cell of what no Clocked that runs assigns none of them may write
abbrev pub UnassignedLaw : Type 0
UnassignedLaw = (st : Closing) (c : Cell) → ((p : ℕ) → In p st.tables.clocked → is_running st p ≡ true → body_assigns c.thing (body_at st.design p) ≡ false) → IsUnwritten st c

-- a cell that no Clocked which runs may write has the value that was known, once the queued writes are made
abbrev pub ClockedFlushLaw : Type 0
ClockedFlushLaw = (st : Closing) → AreRuns st.design st.run → (c : Cell) → IsUnwritten st c → flush (clocked_run st).kept (clocked_run st).queue c ≡ st.start.kept c

-- and if it is not to be made anew, this is what was made of it
abbrev pub ClockedMadeLaw : Type 0
ClockedMadeLaw = (st : Closing) → AreRuns st.design st.run → (c : Cell) → IsUnwritten st c → is_loose st c ≡ false → (settle_start st (clocked_run st)).made c ≡ st.start.kept c

-- ---- what they assign

-- the cell is of a signal or memory that a Clocked assigns
abbrev pub IsClockedCell : Design → Cell → Type 0
IsClockedCell d c = (p : ℕ) × IsClocked (process_at d p) × (body_assigns c.thing (body_at d p) ≡ true)

-- of a lawful design it is not to be made anew
abbrev pub ClockedFirmLaw : Type 0
ClockedFirmLaw = (st : Closing) → IsLawfulDesign st.design → AreTables st.design st.bound st.tables → (c : Cell) → IsClockedCell st.design c → is_loose st c ≡ false

-- what is made of it is what they leave, once the queued writes are made
abbrev pub ClockedStartLaw : Type 0
ClockedStartLaw =
    (st : Closing) → IsLawfulDesign st.design → AreTables st.design st.bound st.tables → (c : Cell) → IsClockedCell st.design c → (w : Working)
    → (settle_start st w).made c ≡ flush w.kept w.queue c

-- no Assign or Comb makes it
abbrev pub ClockedAllMadeLaw : Type 0
ClockedAllMadeLaw =
    (st : Closing) → IsLawfulDesign st.design → AreTables st.design st.bound st.tables → (c : Cell) → IsClockedCell st.design c
    → (all_run st).made c ≡ flush (clocked_run st).kept (clocked_run st).queue c

-- and what is known of it in the end is this, or what the dump says
abbrev pub ClockedAllKeptLaw : Type 0
ClockedAllKeptLaw =
    (st : Closing) → IsLawfulDesign st.design → AreTables st.design st.bound st.tables → (c : Cell) → IsClockedCell st.design c
    → (all_run st).kept c ≡ with_dump st (flush (clocked_run st).kept (clocked_run st).queue) c

-- so it contradicts the step where this surely differs from what the dump says
abbrev pub ClockedContradictsLaw : Type 0
ClockedContradictsLaw =
    (st : Closing) → IsLawfulDesign st.design → AreTables st.design st.bound st.tables → (c : Cell) → IsClockedCell st.design c
    → contradicts st c ≡ (is_dumped st.design st.bound c && surely_differ (flush (clocked_run st).kept (clocked_run st).queue c) (Some (st.new c)))

-- ---- what is outside of the design

-- each Clocked that runs changes only cells of the design
abbrev pub StayInside : Closing → Type 0
StayInside st = (p : ℕ) → In p st.tables.clocked → is_running st p ≡ true → StaysInside st.design st.run p

-- nothing is known of other cells after a clean run
abbrev pub CleanBlankLaw : Type 0
CleanBlankLaw = (st : Closing) (trigger : Option ℕ) (p : ℕ) (w : Working) → StaysInside st.design st.run p → IsBlank st.design w.kept → IsBlank st.design (run_clean st trigger p w).kept

-- and after a weak one
abbrev pub WeakBlankLaw : Type 0
WeakBlankLaw =
    (st : Closing) (trigger wakes : Option ℕ) (p : ℕ) (w : Working) → StaysInside st.design st.run p → IsBlank st.design w.kept
    → IsBlank st.design (run_weak st trigger wakes p w).kept

-- and after all of them
abbrev pub ClockedBlankLaw : Type 0
ClockedBlankLaw = (st : Closing) → StayInside st → IsBlank st.design st.start.kept → IsBlank st.design (clocked_run st).kept

-- and once the queued writes are made
abbrev pub FlushedBlankLaw : Type 0
FlushedBlankLaw = (st : Closing) → StayInside st → IsBlank st.design st.start.kept → IsBlank st.design (flush (clocked_run st).kept (clocked_run st).queue)

-- and as the first Assign or Comb runs
abbrev pub ClockedStartBlankLaw : Type 0
ClockedStartBlankLaw = (st : Closing) → StayInside st → HasDumpCells st.design st.bound → IsBlank st.design st.start.kept → IsBlank st.design (settle_start st (clocked_run st)).kept

-- and after all of them
abbrev pub ClockedAllBlankLaw : Type 0
ClockedAllBlankLaw =
    (st : Closing) → StayInside st → HasDumpCells st.design st.bound → ((p : ℕ) → In p (st.tables.order ++ st.tables.last) → DrivesCells st.design p)
    → IsBlank st.design st.start.kept → IsBlank st.design (all_run st).kept

-- what a body assigns is a signal or memory of the design
abbrev pub NumbersLaw : Type 0
NumbersLaw = (d : Design) → IsLawfulDesign d → (p x : ℕ) → body_assigns x (body_at d p) ≡ true → is_number d x ≡ true
