-- A step of a design by the signals that change in it.
use Rattle.std.specs.Prelude.{◌≡◌, ◌≢◌, ◌-◌, ◌+◌, ◌<◌, ◌↔◌, ◌&&◌, ℕ, Bool, List, Some, true, false, not, length, slice_index_or}
use Rattle.std.specs.List.{Contains}
use Rattle.design_model.specs.Design.{Design, cell, signal_at}
use Rattle.design_model.specs.Lawful.{IsLawfulDesign}
use Rattle.design_model.specs.Shows.{BoundDump}
use Rattle.early_sets.specs.declared.habit.Habit.{Habit}
use Rattle.early_sets.specs.Rounds.{writer_at}
use Rattle.early_sets.specs.WakeState.{WakeState, is_told}
use Rattle.replay_sets.specs.replay_model.Sets.{AreSets}
use Rattle.replay_sets.specs.SetsOf.{AreChosen, sets_of}
use Rattle.replay_sets.specs.wake_laws.Laws.{IsChangedInput, IsRoundOf, habit_of}
use Rattle.replay_sets.specs.wake_laws.OfDesign.{AreTablesOf}
use Rattle.step_wakes.specs.declared.step.SignalChange.{SignalChange}

-- the flag of a signal, false where it has no flag
abbrev pub flag_at : List Bool → ℕ → Bool
flag_at flags x = slice_index_or flags x false

-- the signal is an input that the dump gives
abbrev pub is_given : Design → List Bool → ℕ → Bool
is_given d bound x = (signal_at d x).input && flag_at bound x

-- the signal is an input that the dump does not give
abbrev pub is_missing : Design → List Bool → ℕ → Bool
is_missing d bound x = (signal_at d x).input && not (flag_at bound x)

-- the tables and inputs are those of the design with these bound signals
pub record IsOfDesign (d : Design) (bound : List Bool) (w : WakeState) : Type 0 where
  pub tables : AreTablesOf d w.tables
  pub told : (x : ℕ) → x < w.tables.things → is_told w x ≡ is_given d bound x
  pub untold : (x : ℕ) → Contains w.untold x ↔ (is_missing d bound x ≡ true)

-- the list has each bound input and each signal that may become single that changes over the step at time t, and no input that does not, with its lowest bit before and after
pub record AreChanges (d : Design) (dump : BoundDump) (t : ℕ) (w : WakeState) (changes : List SignalChange) : Type 0 where
  pub only : (c : SignalChange) → Contains changes c → (signal_at d c.signal).input ≡ true → IsChangedInput d dump t c.signal
  pub old : (c : SignalChange) → Contains changes c → c.old ≡ dump.values (t - 1) (cell c.signal 0)
  pub new : (c : SignalChange) → Contains changes c → c.new ≡ dump.values t (cell c.signal 0)
  pub inputs : (x : ℕ) → dump.bound x ≡ true → IsChangedInput d dump t x → (c : SignalChange) × (c.signal ≡ x) × Contains changes c
  pub candidates : (x p : ℕ) → writer_at w x ≡ Some p → dump.values (t - 1) (cell x 0) ≢ dump.values t (cell x 0) → (c : SignalChange) × (c.signal ≡ x) × Contains changes c

-- once the changes of a step are reported, and what is early was found for each clean block, the answers are the sets of the step
abbrev pub StepSets : Design → List Bool → List SignalChange → WakeState → Type 0
StepSets d bound changes w =
    (dump : BoundDump) (t : ℕ) (h : Habit) (early : ℕ → List ℕ)
    → IsLawfulDesign d → IsRoundOf d dump t w → ((x : ℕ) → (signal_at d x).input ≡ true → dump.bound x ≡ flag_at bound x)
    → AreChanges d dump t w changes → AreChosen w h early → AreSets d (habit_of h) dump t (sets_of w early)

-- the turns of the loops of a step before its rounds: one for each input that the dump does not give, and one for each change
abbrev pub note_turns : List SignalChange → WakeState → ℕ
note_turns changes w = length w.untold + length changes
