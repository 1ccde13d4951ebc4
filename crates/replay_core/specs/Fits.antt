-- The parts of a replay fit its design: what is true of each replay, whatever the dump has given.
use Rattle.std.specs.Prelude.{◌≡◌, ◌<◌, ◌≤◌, ◌+◌, ◌^◌, ◌++◌, ◌||◌, ◌↔◌, ℕ, Bool, false, true, not, List, [], length, slice_index_or, Option, Some, None}
use Rattle.body_replay.specs.Store.{Kept}
use Rattle.body_store.specs.Made.{nothing}
use Rattle.code_values.specs.Values.{lacks_value, value_of}
use Rattle.cover_marks.specs.Marks.{AreMarksOf}
use Rattle.cover_points.specs.Listed.{IsPointList}
use Rattle.cover_points.specs.Visits.{AreApart, AreOnce}
use Rattle.cover_points.specs.declared.listing.Points.{Points}
use Rattle.design_model.specs.Design.{Design, In, is_memory, no_signal, signal_at}
use Rattle.design_model.specs.declared.design.Signal.{Signal}
use Rattle.design_model.specs.Lawful.{IsLawfulDesign}
use Rattle.cover_points.specs.design_machines.state_machines.Machines.{StateMachines}
use Rattle.early_sets.specs.WakeState.{WakeState, state_of}
use Rattle.four_state.specs.Vector.{Vector}
use Rattle.index_sets.specs.Rows.{row_at}
use Rattle.machine_index.specs.Index.{IsIndexOf}
use Rattle.model_laws.specs.Own.{HasOwnWakes}
use Rattle.process_order.specs.Tables.{tables_of}
use Rattle.replay_model.specs.Tables.{AreTables}
use Rattle.run_order.specs.Ranked.{AreRanksOf}
use Rattle.first_step.specs.settling.Runs.{HasRows}
use Rattle.first_step.specs.step_changes.Changes.{AreSignalsOf, AreUnsigned}
use Rattle.first_step.specs.step_check.Checks.{AreCheckRows}
use Rattle.step_runs.specs.Rows.{AreWrittenRows}
use Rattle.first_step.specs.step_values.Loose.{has_code}
use Rattle.first_step.specs.step_values.Vectors.{FitsSignals}
use Rattle.first_step.specs.step_wakes.Step.{IsOfDesign}
use Rattle.first_step.specs.store_knowledge.Knows.{Knows}
use Rattle.first_step.specs.wake_bits.Wakes.{AreWakeRows}
use Rattle.step_words.specs.Words.{FitsRanges, HasWords, StepState}
use Rattle.wake_laws.specs.OfDesign.{AreWritersOf}
use Rattle.written_words.specs.Same.{FollowsAll}
use Rattle.written_words.specs.Written.{WrittenState}
use Rattle.replay_core.specs.Codes.{flags_of}
use Rattle.replay_core.specs.declared.fault.Phase.{Phase}
use Rattle.replay_core.specs.declared.fault.Phase.TheVariants.{Paused, Refused, Started}
use Rattle.replay_core.specs.declared.fault.ReplayFault.{ReplayFault}
use Rattle.replay_core.specs.declared.fault.ReplayFault.TheVariants.{Contradiction, NoBaseline}
use Rattle.replay_core.specs.declared.room.ReplayRoom.{ReplayRoom}
use Rattle.replay_core.specs.declared.state.ReplayState.{ReplayState}
use Rattle.replay_core.specs.declared.tables.ReplayTables.{ReplayTables}

-- a lawful design whose steps can be replayed, and its points, with some state machines
pub record IsReplayable (d : Design) (points : Points) : Type 0 where
  pub lawful : IsLawfulDesign d
  pub own_wakes : HasOwnWakes d
  pub machines : StateMachines
  pub listed : IsPointList d machines points
  pub apart : AreApart points
  pub once : AreOnce points

-- the signal with this number is no input, or is bound, as its flag says
abbrev pub is_bound_if_input : List Signal → List Bool → ℕ → Bool
is_bound_if_input signals bound s = not (slice_index_or signals s no_signal).input || slice_index_or bound s false

-- each input is bound
abbrev pub HasInputs : List Signal → List Bool → Type 0
HasInputs signals bound = (s : ℕ) → s < length signals → is_bound_if_input signals bound s ≡ true

-- the signal with this number is an input that is not bound
pub record IsUnbound (signals : List Signal) (bound : List Bool) (s : ℕ) : Type 0 where
  pub listed : s < length signals
  pub unbound : is_bound_if_input signals bound s ≡ false

-- the tables are those of the design, with the signals bound that have a code
pub record FitsTables (d : Design) (x : ReplayTables) : Type 0 where
  pub codes : length x.step.codes.items ≡ length d.signals
  pub signals : AreSignalsOf x.step.codes.items x.step.signals
  pub tabled : AreTables d (has_code x.step.codes.items) (tables_of x.processes)
  pub ranked : AreRanksOf (x.processes.order.items ++ x.processes.last.items) (length d.processes) x.step.order
  pub clocked : AreRanksOf x.processes.clocked.items (length d.processes) x.step.clocked
  pub written : AreWrittenRows d x.step.written
  pub rows : HasRows d x.step.targets x.step.written x.wakes
  pub wakes : AreWakeRows d x.processes.watched x.wakes
  pub checks : AreCheckRows x.step.codes.items x.step.targets x.checks
  pub inputs : x.lacks_input ≡ false ↔ HasInputs d.signals (flags_of x.step.codes.items)

-- each event signal with a code that one block writes at most once may become single
abbrev pub HasWriters : Design → List (Option ℕ) → WakeState → Type 0
HasWriters d codes w = AreWritersOf d (has_code codes) w.tables.things w.writers

-- the room is of the size of the design
pub record FitsRoom (d : Design) (x : ReplayTables) (r : ReplayRoom) : Type 0 where
  pub changed : r.step.changed.size ≡ length d.signals
  pub changes : length d.signals ≤ r.step.changes.room
  pub sets : IsOfDesign d (flags_of x.step.codes.items) (state_of r.step.sets)
  pub writers : HasWriters d x.step.codes.items (state_of r.step.sets)
  pub list : r.step.list.count ≡ length d.processes
  pub clocked : r.step.clocked.count ≡ length d.processes
  pub overwritten : r.step.overwritten.size ≡ length d.signals
  pub running : r.step.running.size ≡ length d.processes
  pub places : length d.processes ≤ r.by_round.count
  pub ranks : length d.signals + length d.memories < r.by_round.count
  pub none_by_round : r.by_round.pairs ≡ []
  pub later : length d.processes ≤ r.later.room
  pub none_later : r.later.items ≡ []
  pub values : FitsSignals d r.step.values
  pub saved : (p : ℕ) → p < length d.processes → length (row_at x.step.targets p) ≤ length r.scratch.saved
  pub empty : r.scratch.pieces.items ≡ []
  pub pieces : 128 ≤ r.scratch.pieces.room
  pub ran : length d.processes ≤ r.ran.room
  pub checks : r.checks.size ≡ length d.signals

-- each value is as wide as the signals that have its code
abbrev pub AreWideValues : Design → List (Option ℕ) → List (Option Vector) → Type 0
AreWideValues d codes values =
    (s code : ℕ) (v : Vector) → slice_index_or codes s None ≡ Some code → value_of values code ≡ Some v → length v.bits ≡ (signal_at d s).width

-- what is kept is of the size of the design, and so are the values that the dump gave, before and now; the new ones have no sign
pub record FitsState (d : Design) (points : Points) (x : ReplayTables) (s : ReplayState) : Type 0 where
  pub kept : Kept
  pub known : Knows d kept s.store
  pub acted : length s.acted.items ≡ length d.processes
  pub seen : length s.seen ≡ length d.signals
  pub machines : IsIndexOf points.machines.items (length d.signals) s.machines.index
  pub few_machines : length points.machines.items ≤ 2 ^ 32
  pub noted : s.notes.points.now ≡ points
  pub marks : AreMarksOf points s.notes.marks
  pub rows : length x.step.signals ≡ length s.values.last
  pub wide : AreWideValues d x.step.codes.items s.values.last
  pub wide_closed : AreWideValues d x.step.codes.items s.values.closed
  pub unsigned : AreUnsigned s.values.last

-- the words that are listed as they are written, and those of which is known what they were, are the words of the memories that some
-- process watches
pub record FitsWords (d : Design) (x : ReplayTables) (w : WrittenState) (y : StepState) : Type 0 where
  pub first : w.first ≡ length d.signals
  pub ranges : FitsRanges d w.ranges y
  pub followed : (p m : ℕ) → In m (row_at x.processes.watched p) → is_memory d m ≡ true → FollowsAll d w m

-- all fit
pub record FitsParts (d : Design) (points : Points) (x : ReplayTables) (r : ReplayRoom) (s : ReplayState) : Type 0 where
  pub tables : FitsTables d x
  pub room : FitsRoom d x r
  pub state : FitsState d points x s
  pub words : FitsWords d x s.notes.written r.words

-- nothing is known of a signal or word, and the states of no machine were reported
pub record IsForgotten (d : Design) (r : ReplayRoom) (s : ReplayState) : Type 0 where
  pub knows : Knows d nothing s.store
  pub words : HasWords d nothing s.notes.written.ranges r.words
  pub told : s.machines.told ≡ false

-- each signal with a code has a value
abbrev pub HaveValues : List (Option ℕ) → List (Option Vector) → Type 0
HaveValues codes values = (s : ℕ) → lacks_value values codes s ≡ false

-- the signal that a fault names
abbrev pub signal_of : ReplayFault → ℕ
signal_of (NoBaseline s) = s
signal_of (Contradiction s t dumped computed) = s

-- the parts of a replay of a design fit it, no process waits, and they are as far as the replay has come
pub record FitsReplay (d : Design) (points : Points) (x : ReplayTables) (r : ReplayRoom) (s : ReplayState) (phase : Phase) : Type 0 where
  pub replayable : IsReplayable d points
  pub parts : FitsParts d points x r s
  pub none : r.step.list.pairs ≡ []
  pub none_clocked : r.step.clocked.pairs ≡ []
  pub forgotten : phase ≡ Paused → IsForgotten d r s
  pub begun : phase ≡ Started → HaveValues x.step.codes.items s.values.last
  pub closed : phase ≡ Started → HaveValues x.step.codes.items s.values.closed
  pub refused : (fault : ReplayFault) → phase ≡ Refused fault → signal_of fault < length d.signals
