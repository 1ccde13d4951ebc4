-- The laws of a step and of a run.
use Rattle.std.specs.Prelude.{◌≡◌, ◌≢◌, ◌⊎◌, ℕ, suc, Bool, true, false, List, [], ◌∷◌, ◌++◌}
use Rattle.event_machine.specs.Cell.{Cell, Values, Write, put_all, WritesCell, Changes}
use Rattle.event_machine.specs.Machine.{Machine, output, IsTarget, IsWakeCell, IsCombinational}
use Rattle.event_machine.specs.State.{State, IsQuiet}
use Rattle.event_machine.specs.Event.{Event, Move, Evaluate, event_writes, is_evaluation, state_after, end_state}
use Rattle.event_machine.specs.Habit.{Habit, Free, Late, is_free_input, NoWakingMoves, IsByHabit}
use Rattle.event_machine.specs.Step.{IsStep, evaluations, outputs}
use Rattle.event_machine.specs.Told.{Told, IsToldInput, IsMovingInput}
use Rattle.event_machine.specs.ToldStep.{ToldStep}
use Rattle.event_machine.specs.MayMove.{MayWake, MayMove, CanWake, IsClean}
use Rattle.event_machine.specs.Early.{IsEarly}
use Rattle.event_machine.specs.Single.{IsSingle}
use Rattle.event_machine.specs.Run.{Timed, HasComputed, IsRun, state_at}

-- Waking law: an event wakes each process that is level-sensitive to a cell that it changes, except the one that it evaluates.
abbrev pub WakingLaw : {V : Type 0} → Machine V → Type 0
WakingLaw {V} m =
    (s : State V) (e : Event V) (c : Cell) (p : ℕ)
    → Changes s.values (event_writes m s e) c → m.level p c.thing ≡ true → is_evaluation p e ≡ false → (state_after m s e).woken p ≡ true

-- Own-write law: what a process writes when it is evaluated does not wake it.
abbrev pub OwnWriteLaw : {V : Type 0} → Machine V → Type 0
OwnWriteLaw {V} m = (s : State V) (p : ℕ) → (state_after m s (Evaluate p)).woken p ≡ false

-- Rest law, by the sets of any round: no thing changes at any event of a step, be it for a moment, unless it may move.
abbrev pub RestLaw : {V : Type 0} → Machine V → Type 0
RestLaw {V} m =
    (n : ℕ) (h : Habit) (t : Told V) (k : ToldStep m h t) (before after : List (Event V)) (e : Event V) → k.events ≡ before ++ e ∷ after
    → (c : Cell) → Changes (end_state m k.start before).values (event_writes m (end_state m k.start before) e) c → MayMove m t (IsSingle m t n) c.thing

-- Unchanged law: what may not move has its value of the step's start before each of its events, and so at its end.
abbrev pub UnchangedLaw : {V : Type 0} → Machine V → Type 0
UnchangedLaw {V} m =
    (n : ℕ) (h : Habit) (t : Told V) (k : ToldStep m h t) (c : Cell) → (MayMove m t (IsSingle m t n) c.thing → ⊥)
    → (before after : List (Event V)) → k.events ≡ before ++ after → (end_state m k.start before).values c ≡ k.start.values c

-- No-event law: where all inputs are reported and none changes, a step has no events.
abbrev pub NoEventLaw : {V : Type 0} → Machine V → Type 0
NoEventLaw {V} m =
    (h : Habit) (t : Told V) (k : ToldStep m h t) → ((c : Cell) → m.is_input c ≡ true → (t.is_told c.thing ≡ true) × (t.old c ≡ t.new c)) → k.events ≡ []

-- No-wake law, by the sets of any round: a Clocked that cannot wake is not evaluated.
abbrev pub NoWakeLaw : {V : Type 0} → Machine V → Type 0
NoWakeLaw {V} m =
    (n : ℕ) (h : Habit) (t : Told V) (k : ToldStep m h t) (p : ℕ)
    → ((x : ℕ) → m.level p x ≡ false) → ((c : Cell) → CanWake m t (IsSingle m t n) c p → ⊥) → evaluations m p k.start k.events ≡ []

-- Write law: a cell that p may write ends a step as p's evaluations in it leave it.
abbrev pub WriteLaw : {V : Type 0} → Machine V → Type 0
WriteLaw {V} m =
    (h : Habit) (s : State V) (es : List (Event V)) → IsStep m h s es
    → (p : ℕ) (c : Cell) → IsTarget m p c → (end_state m s es).values c ≡ put_all s.values (outputs m p (evaluations m p s es)) c

-- p is evaluated in the step; on entry of its last evaluation each wake cell has its value at the step's end, and
-- the blocking targets end the step as that evaluation leaves them
pub record EvaluatesSettled {V : Type 0} (m : Machine V) (p : ℕ) (s : State V) (es : List (Event V)) : Type 0 where
  pub earlier : List (Values V)
  pub entry : Values V
  pub evaluated : evaluations m p s es ≡ earlier ++ entry ∷ []
  pub settled : (c : Cell) → IsWakeCell m p c → entry c ≡ (end_state m s es).values c
  pub leaves : (c : Cell) → m.blocking p c ≡ true → (end_state m s es).values c ≡ put_all entry (output m p entry) c

-- Settled law: where a wake cell of p changes over a step, p is evaluated in it, at last on settled values.
abbrev pub SettledLaw : {V : Type 0} → Machine V → Type 0
SettledLaw {V} m =
    (h : Habit) (s : State V) (es : List (Event V)) → IsStep m h s es → (p : ℕ) (c : Cell) → IsWakeCell m p c → (end_state m s es).values c ≢ s.values c → EvaluatesSettled m p s es

-- p is not evaluated, and each thing that it is level-sensitive to ends the step as it began
pub record IsIdle {V : Type 0} (m : Machine V) (p : ℕ) (s : State V) (es : List (Event V)) : Type 0 where
  pub not_evaluated : evaluations m p s es ≡ []
  pub kept : (c : Cell) → m.level p c.thing ≡ true → (end_state m s es).values c ≡ s.values c

-- Idle law: each process is evaluated in a step, at last on settled values, or is idle.
abbrev pub IdleLaw : {V : Type 0} → Machine V → Type 0
IdleLaw {V} m =
    (h : Habit) (s : State V) (es : List (Event V)) → IsStep m h s es → (p : ℕ) → EvaluatesSettled m p s es ⊎ IsIdle m p s es

-- Computed law: a combinational target has its computed value at the end of a step in which its process is evaluated,
-- or that it had from the start.
abbrev pub ComputedLaw : {V : Type 0} → Machine V → Type 0
ComputedLaw {V} m =
    (h : Habit) (s : State V) (es : List (Event V)) → IsStep m h s es → (p : ℕ) (c : Cell) → IsCombinational m p c
    → (evaluations m p s es ≡ [] → HasComputed m p c s) → HasComputed m p c (end_state m s es)

-- Net law: at each time of a run the target of each Assign has its value.
abbrev pub NetLaw : {V : Type 0} → Machine V → Type 0
NetLaw {V} m =
    (h : Habit) (now : ℕ) (s : State V) (xs : List (Timed V)) → IsRun m h now s xs
    → (t p : ℕ) (c : Cell) → m.is_assign p ≡ true → m.blocking p c ≡ true → HasComputed m p c (state_at m t s xs)

-- b is evaluated exactly once. On entry its trigger c has the new value, a reported input the old or the new value, and each
-- thing that is neither the trigger nor early the value of the step's start; its targets end the step as it leaves them
pub record EvaluatesOnce {V : Type 0} (m : Machine V) (t : Told V) (single : Cell → Type 0) (h : Habit) (b : ℕ) (c : Cell) (s : State V) (es : List (Event V)) : Type 0 where
  pub entry : Values V
  pub evaluated : evaluations m b s es ≡ entry ∷ []
  pub trigger : entry c ≡ t.new c
  pub inputs : (d : Cell) → IsToldInput m t d → (entry d ≡ t.old d) ⊎ (entry d ≡ t.new d)
  pub others : (d : Cell) → d.thing ≢ c.thing → (IsEarly m t single h b c d.thing → ⊥) → entry d ≡ s.values d
  pub leaves : (d : Cell) → IsTarget m b d → (end_state m s es).values d ≡ put_all s.values (output m b entry) d

-- Edge law, by the sets of any round: a clean block is evaluated exactly once in the step, on its trigger's new value
-- and, early things aside, on the values of the step's start.
abbrev pub EdgeLaw : {V : Type 0} → Machine V → Habit → Type 0
EdgeLaw {V} m h =
    (n : ℕ) (t : Told V) (k : ToldStep m h t) (b : ℕ) (c : Cell) → IsClean m t (IsSingle m t n) b c → EvaluatesOnce m t (IsSingle m t n) h b c k.start k.events

-- Free-habit law: any events are by the free habit.
abbrev pub FreeHabitLaw : {V : Type 0} → Machine V → Type 0
FreeHabitLaw {V} m = (s : State V) (es : List (Event V)) → IsByHabit m Free s es

-- Without a waking Move any events from a quiet state are by either habit.
abbrev pub NoWakingMoveLaw : {V : Type 0} → Machine V → Type 0
NoWakingMoveLaw {V} m = (h : Habit) (s : State V) (es : List (Event V)) → IsQuiet s → NoWakingMoves m s es → IsByHabit m h s es

-- Late-habit law: from the Move of a data input on, no waking Move comes.
abbrev pub LateHabitLaw : {V : Type 0} → Machine V → Type 0
LateHabitLaw {V} m =
    (s : State V) (before : List (Event V)) (ws : List (Write V)) (after : List (Event V)) → IsByHabit m Late s (before ++ Move ws ∷ after)
    → (c : Cell) → WritesCell ws c → m.is_event_signal c.thing ≡ false → NoWakingMoves m (end_state m s before) (Move ws ∷ after)

-- Early law: what is early for a clean block may move.
abbrev pub EarlyLaw : {V : Type 0} → Machine V → Type 0
EarlyLaw {V} m =
    (n : ℕ) (t : Told V) (h : Habit) (b : ℕ) (c : Cell) → IsClean m t (IsSingle m t n) b c → (x : ℕ) → IsEarly m t (IsSingle m t n) h b c x → MayMove m t (IsSingle m t n) x

-- a set of things that holds each moving input and each target of a process that a member may wake
pub record IsClosed {V : Type 0} (m : Machine V) (t : Told V) (single : Cell → Type 0) (has : ℕ → Bool) : Type 0 where
  pub inputs : (c : Cell) → IsMovingInput m t c → has c.thing ≡ true
  pub targets : (x p : ℕ) (c : Cell) → has x ≡ true → MayWake m t single x p → IsTarget m p c → has c.thing ≡ true

-- What may move is in each closed set.
abbrev pub LeastMayMove : {V : Type 0} → Machine V → Type 0
LeastMayMove {V} m =
    (n : ℕ) (t : Told V) (has : ℕ → Bool) → IsClosed m t (IsSingle m t n) has → (x : ℕ) → MayMove m t (IsSingle m t n) x → has x ≡ true

-- a set of things that is closed under the rules of what is early for block b with trigger c
pub record IsEarlyClosed {V : Type 0} (m : Machine V) (t : Told V) (single : Cell → Type 0) (h : Habit) (b : ℕ) (c : Cell) (has : ℕ → Bool) : Type 0 where
  pub inputs : (d : Cell) → IsMovingInput m t d → (m.is_input c ≡ true → is_free_input m h d.thing ≡ true) → d.thing ≢ c.thing → has d.thing ≡ true
  pub of_trigger : (p : ℕ) (d : Cell) → MayWake m t single c.thing p → p ≢ b → m.blocking p d ≡ true → d.thing ≢ c.thing → has d.thing ≡ true
  pub blocking : (x p : ℕ) (d : Cell) → has x ≡ true → MayWake m t single x p → p ≢ b → m.blocking p d ≡ true → d.thing ≢ c.thing → has d.thing ≡ true
  pub nonblocking : (x p : ℕ) (d : Cell) → has x ≡ true → MayWake m t single x p → m.nonblocking p d ≡ true → d.thing ≢ c.thing → has d.thing ≡ true

-- What is early is in each set that is closed under its rules.
abbrev pub LeastEarly : {V : Type 0} → Machine V → Type 0
LeastEarly {V} m =
    (n : ℕ) (t : Told V) (h : Habit) (b : ℕ) (c : Cell) (has : ℕ → Bool) → IsEarlyClosed m t (IsSingle m t n) h b c has
    → (x : ℕ) → IsEarly m t (IsSingle m t n) h b c x → has x ≡ true

-- it is decided in each round which process can wake by which cell, as in a finite design
abbrev pub IsDecided : {V : Type 0} → Machine V → Told V → Type 0
IsDecided m t = (n : ℕ) (c : Cell) (p : ℕ) → CanWake m t (IsSingle m t n) c p ⊎ (CanWake m t (IsSingle m t n) c p → ⊥)

-- from round n to the next the single cells and the clean blocks that can still wake grow, and what may move and what can wake shrink
pub record RoundGrows {V : Type 0} (m : Machine V) (t : Told V) (n : ℕ) : Type 0 where
  pub single : (c : Cell) → IsSingle m t n c → IsSingle m t (suc n) c
  pub may_move : (x : ℕ) → MayMove m t (IsSingle m t (suc n)) x → MayMove m t (IsSingle m t n) x
  pub can_wake : (c : Cell) (p : ℕ) → CanWake m t (IsSingle m t (suc n)) c p → CanWake m t (IsSingle m t n) c p
  pub clean : (p : ℕ) (c : Cell) → IsClean m t (IsSingle m t n) p c → ((d : Cell) → CanWake m t (IsSingle m t (suc n)) d p → ⊥) ⊎ ((d : Cell) × IsClean m t (IsSingle m t (suc n)) p d)

-- Rounds law: each round grows on the one before.
abbrev pub RoundsLaw : {V : Type 0} → Machine V → Type 0
RoundsLaw {V} m = (t : Told V) → IsDecided m t → (n : ℕ) → RoundGrows m t n
