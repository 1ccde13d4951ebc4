-- The sets of a step, by tables, are those of the design's definitions.
use Rattle.std.specs.Prelude.{◌≡◌, ◌⊎◌, ◌<◌, ◌-◌, ◌&&◌, ◌↔◌, ℕ, true, false, List, ◌∷◌, Some, None}
use Rattle.std.specs.List.{Contains}
use Rattle.event_machine.specs.Cell.{Cell}
use Rattle.event_machine.specs.Single.{IsLastRound, IsSingle}
use Rattle.event_machine.specs.Told.{IsMovingInput}
use Rattle.event_machine.specs.Habit.{Free as MachineFree, Habit as MachineHabit, Late as MachineLate}
use Rattle.design_model.specs.Design.{Design, cell, signal_at}
use Rattle.design_model.specs.Machine.{machine}
use Rattle.design_model.specs.Shows.{BoundDump}
use Rattle.design_model.specs.Early.{IsEarlyAt}
use Rattle.design_model.specs.MayMove.{CanWakeAt, CanWakeSome, IsCleanAt, IsSingleAt, MayMoveAt, told_at}
use Rattle.wake_laws.specs.OfDesign.{AreTablesOf, AreWritersOf}
use Rattle.early_sets.specs.declared.habit.Habit.{Habit}
use Rattle.early_sets.specs.declared.habit.Habit.TheVariants.{Free, Late}
use Rattle.early_sets.specs.Early.{IsEarlyBy}
use Rattle.early_sets.specs.Edges.{edges_between}
use Rattle.early_sets.specs.Reached.{Reached}
use Rattle.early_sets.specs.Rounds.{AreRounds, becomes_single, round_at, writer_at}
use Rattle.early_sets.specs.WakeState.{WakeState, edges_at, is_single, is_told, nothing_left, own_edges, trigger_of, waker_of}

-- signal x is an input that changes over the step at time t, or of which nothing is known
abbrev pub IsChangedInput : Design → BoundDump → ℕ → ℕ → Type 0
IsChangedInput d dump t x = (c : Cell) × (c.thing ≡ x) × IsMovingInput (machine d) (told_at dump t) c

-- what was reported of the step at time t is what the dump says: each input that changes or may change, and of a bound one, and of each signal that may become single, from which bit to which
pub record AreNotes (d : Design) (dump : BoundDump) (t : ℕ) (w : WakeState) : Type 0 where
  pub told_are : (x : ℕ) → x < w.tables.things → is_told w x ≡ ((signal_at d x).input && dump.bound x)
  pub noted_are : (x : ℕ) → Contains w.noted x ↔ IsChangedInput d dump t x
  pub changes : (x : ℕ) → Contains w.noted x → is_told w x ≡ true → own_edges w x ≡ edges_between (dump.values (t - 1) (cell x 0)) (dump.values t (cell x 0))
  pub others : (x p : ℕ) → writer_at w x ≡ Some p → own_edges w x ≡ edges_between (dump.values (t - 1) (cell x 0)) (dump.values t (cell x 0))

-- what is single in the state is so at time t, and of what is reached nothing else is
pub record AreSingle (d : Design) (dump : BoundDump) (t : ℕ) (w : WakeState) : Type 0 where
  pub candidates : (x : ℕ) → Contains w.derived x → (p : ℕ) × (writer_at w x ≡ Some p)
  pub sound : (x : ℕ) → x < w.tables.things → is_single w x ≡ true → IsSingleAt d dump t (cell x 0)
  pub complete : (x : ℕ) → Reached w.tables (edges_at w) nothing_left (Contains w.noted) x → IsSingleAt d dump t (cell x 0) → is_single w x ≡ true

-- what the changed inputs reach is what may move
abbrev pub MovesLaw : Design → Type 0
MovesLaw d =
    (dump : BoundDump) (t : ℕ) (w : WakeState) → AreTablesOf d w.tables → AreNotes d dump t w → AreSingle d dump t w
    → (x : ℕ) → Reached w.tables (edges_at w) nothing_left (Contains w.noted) x ↔ MayMoveAt d dump t x

-- the sets of a state are those of its notes
pub record IsSettled (w : WakeState) : Type 0 where
  pub moves_are : (x : ℕ) → Contains w.moves x ↔ Reached w.tables (edges_at w) nothing_left (Contains w.noted) x

-- what may move, by which event signal a process can wake, and which process is clean
pub record AreWakes (d : Design) (dump : BoundDump) (t : ℕ) (w : WakeState) : Type 0 where
  pub moves : (x : ℕ) → Contains w.moves x ↔ MayMoveAt d dump t x
  pub wakes : (p s : ℕ) → waker_of w p ≡ Some s → CanWakeAt d dump t (cell s 0) p
  pub no_wakes : (p : ℕ) → waker_of w p ≡ None → CanWakeSome d dump t p → ⊥
  pub trigger : (p s : ℕ) → trigger_of w p ≡ Some s → IsCleanAt d dump t p (cell s 0)
  pub no_trigger : (p : ℕ) → trigger_of w p ≡ None → (c : Cell) → IsCleanAt d dump t p c → ⊥

-- once it is settled, a state of which was reported what the dump says has the sets of the design's definitions
abbrev pub WakesLaw : Design → Type 0
WakesLaw d = (dump : BoundDump) (t : ℕ) (w : WakeState) → AreTablesOf d w.tables → AreNotes d dump t w → AreSingle d dump t w → IsSettled w → AreWakes d dump t w

-- the habit of the definitions
abbrev pub habit_of : Habit → MachineHabit
habit_of Free = MachineFree
habit_of Late = MachineLate

-- what is early for a clean block is the set of the definitions
abbrev pub EarlyLaw : Design → Type 0
EarlyLaw d =
    (dump : BoundDump) (t : ℕ) (w : WakeState) → AreTablesOf d w.tables → AreNotes d dump t w → AreSingle d dump t w
    → (h : Habit) (p s : ℕ) → IsCleanAt d dump t p (cell s 0) → (x : ℕ) → IsEarlyBy w h p s x ↔ IsEarlyAt d (habit_of h) dump t p (cell s 0) x

-- nothing may become single
abbrev pub HasNoWriters : WakeState → Type 0
HasNoWriters w = (x : ℕ) → writer_at w x ≡ None

-- the step at time t is judged by the round to which the state goes: round 0 where nothing may become single, and the last round where all may that the definitions allow
abbrev pub IsRoundOf : Design → BoundDump → ℕ → WakeState → Type 0
IsRoundOf d dump t w =
    (HasNoWriters w × (dump.round t ≡ 0)) ⊎ (AreWritersOf d dump.bound w.tables.things w.writers × IsLastRound (machine d) (told_at dump t) (dump.round t))

-- thing x is single first in round n of the step at time t
pub record IsFirstSingle (d : Design) (dump : BoundDump) (t x n : ℕ) : Type 0 where
  pub is_single : IsSingle (machine d) (told_at dump t) n (cell x 0)
  pub not_before : (k : ℕ) → k < n → IsSingle (machine d) (told_at dump t) k (cell x 0) → ⊥

-- what is single is so by the round of the step, and each thing since the round with its number
pub record AreInRounds (d : Design) (dump : BoundDump) (t : ℕ) (w : WakeState) : Type 0 where
  pub single : AreSingle d dump t w
  pub first : (x : ℕ) → x < w.tables.things → is_single w x ≡ true → IsFirstSingle d dump t x (round_at w x)

-- after the rounds of a step of which was reported what the dump says, what is single is that of the design's definitions
abbrev pub RoundsLaw : Design → Type 0
RoundsLaw d =
    (dump : BoundDump) (t : ℕ) (w : WakeState) (earlier : List WakeState) → AreTablesOf d w.tables → AreNotes d dump t w → IsRoundOf d dump t w
    → AreRounds (w ∷ earlier) → ((x : ℕ) → becomes_single w x ≡ false) → AreInRounds d dump t w
