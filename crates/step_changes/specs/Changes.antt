-- The signals that change in a step, and the sets of the step.
use Rattle.std.specs.Prelude.{◌≡◌, ◌<◌, ◌-◌, ◌++◌, ◌↔◌, ℕ, Bool, true, false, List, length, is_some, slice_index_or, Option, Some, None}
use Rattle.std.specs.List.{Contains, list_any}
use Rattle.event_machine.specs.Habit.{Habit}
use Rattle.event_machine.specs.Single.{IsLastRound}
use Rattle.four_state.specs.Vector.{Vector}
use Rattle.four_state.specs.declared.bit.Bit.{Bit}
use Rattle.four_state.specs.declared.bit.Bit.TheVariants.{X}
use Rattle.step_values.specs.design_model.Design.{Design, In}
use Rattle.step_values.specs.design_model.Lawful.{IsLawfulDesign}
use Rattle.step_values.specs.design_model.Machine.{machine}
use Rattle.step_values.specs.design_model.MayMove.{told_at}
use Rattle.step_values.specs.design_model.Shows.{BoundDump}
use Rattle.code_values.specs.Values.{IsChanged, Values, value_of}
use Rattle.early_sets.specs.Has.{is_in}
use Rattle.early_sets.specs.Rounds.{HasMoves}
use Rattle.early_sets.specs.WakeState.{WakeState, waker_of}
use Rattle.index_sets.specs.Rows.{row_at}
use Rattle.process_order.specs.replay_model.Sets.{AreSets}
use Rattle.process_order.specs.replay_model.Tables.{AreTables, Tables}
use Rattle.step_wakes.specs.replay_sets.SetsOf.{sets_of}
use Rattle.step_values.specs.Dumped.{AreDumped, coded_value}
use Rattle.step_values.specs.Loose.{has_code}
use Rattle.step_wakes.specs.Step.{IsOfDesign, flag_at}
use Rattle.step_wakes.specs.declared.step.SignalChange.{SignalChange}
use Rattle.step_wakes.specs.wake_laws.OfDesign.{AreTablesOf, AreWritersOf}

-- the rows have for each code the signals that have it
abbrev pub AreSignalsOf : List (Option ℕ) → List (List ℕ) → Type 0
AreSignalsOf codes rows = (code s : ℕ) → Contains (row_at rows code) s ↔ (slice_index_or codes s None ≡ Some code)

-- the list has exactly the signals whose code has another value than at the last closed step
abbrev pub AreChangedSignals : List (Option ℕ) → Values → List ℕ → Type 0
AreChangedSignals codes t changed = (s : ℕ) → Contains changed s ↔ ((code : ℕ) × (slice_index_or codes s None ≡ Some code) × IsChanged t code)

-- the lowest bit of a value, x where there is no value
abbrev pub lowest : Option Vector → Bit
lowest None = X
lowest (Some v) = slice_index_or v.bits 0 X

-- the lowest bit of a signal at the last closed step, and as the dump gave it last
abbrev pub change_by : List (Option ℕ) → Values → ℕ → SignalChange
change_by codes t s =
    record {
      signal = s;
      old = lowest (coded_value t.closed (slice_index_or codes s None));
      new = lowest (coded_value t.last (slice_index_or codes s None));
    }

-- no value has a sign
abbrev pub AreUnsigned : List (Option Vector) → Type 0
AreUnsigned values = (code : ℕ) (v : Vector) → value_of values code ≡ Some v → v.signed ≡ false

-- the step at time t of a dump is to be closed, judged by its last round: these are its codes, their values before and after, and its tables
pub record IsDue (d : Design) (dump : BoundDump) (t : ℕ) (flags : List Bool) (codes : List (Option ℕ)) (values : Values) (w : WakeState) : Type 0 where
  pub lawful : IsLawfulDesign d
  pub tables : IsOfDesign d flags w
  pub writers : AreWritersOf d dump.bound w.tables.things w.writers
  pub round : IsLastRound (machine d) (told_at dump t) (dump.round t)
  pub bound : (s : ℕ) → dump.bound s ≡ has_code codes s
  pub flagged : (s : ℕ) → flag_at flags s ≡ has_code codes s
  pub signals : (s : ℕ) → dump.bound s ≡ true → s < length d.signals
  pub old : AreDumped d codes values.closed (dump.values (t - 1))
  pub new : AreDumped d codes values.last (dump.values t)
  pub unsigned_old : AreUnsigned values.closed
  pub unsigned_new : AreUnsigned values.last

-- of the processes in these tables those are woken that watch something that may move, or that have a waker
pub record AreWoken (tables : Tables) (w : WakeState) : Type 0 where
  pub settling : (p : ℕ) → In p (tables.order ++ tables.last) → In p w.woken ↔ (list_any (is_in w.moves) (tables.watched p) ≡ true)
  pub clocked : (p : ℕ) → In p tables.clocked → In p w.woken ↔ (is_some (waker_of w p) ≡ true)

-- of the Assigns and Combs those may be woken that watch something that may move, and of the Clocked those that have a waker
abbrev pub WokenLaw : Type 0
WokenLaw =
    (d : Design) (h : Habit) (dump : BoundDump) (t : ℕ) (tables : Tables) (w : WakeState) (early : ℕ → List ℕ)
    → AreTablesOf d w.tables → AreTables d dump.bound tables → AreSets d h dump t (sets_of w early) → HasMoves w → AreWoken tables w
