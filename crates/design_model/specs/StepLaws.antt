-- What holds of each step of a run that shows the dump up to the time of the step.
use Rattle.std.specs.Prelude.{◌≡◌, ◌≢◌, ◌⊎◌, ◌∷◌, ◌++◌, ◌<◌, ◌≤◌, ℕ, suc, true, List, []}
use Rattle.event_machine.specs.Cell.{Cell, Values, put_all}
use Rattle.event_machine.specs.Machine.{IsTarget, IsWakeCell, output}
use Rattle.event_machine.specs.Event.{Event, end_state}
use Rattle.event_machine.specs.Habit.{Habit}
use Rattle.event_machine.specs.Step.{outputs}
use Rattle.event_machine.specs.Laws.{EvaluatesSettled, IsIdle}
use Rattle.four_state.specs.declared.bit.Bit.{Bit}
use Rattle.design_model.specs.Design.{Design, IsClocked, body_at, is_assign, process_at, signal_at}
use Rattle.design_model.specs.Execution.{execution}
use Rattle.design_model.specs.Reads.{Agrees}
use Rattle.design_model.specs.Machine.{is_level, machine}
use Rattle.design_model.specs.Run.{IsRun, Run, StepOf, end_of, evaluations_of, settled, start_of}
use Rattle.design_model.specs.Shows.{BindsSignals, BoundDump, IsDumpOf, IsListed, IsShowing, IsWindow}
use Rattle.design_model.specs.MayMove.{CanWakeSome, IsCleanAt, MayMoveAt}
use Rattle.design_model.specs.Early.{IsEarlyAt}
use Rattle.design_model.specs.Open.{KnownOnEntry}

-- the targets of p are as an evaluation leaves them that began with the present values of p's wake cells
pub record IsLeft (d : Design) (p : ℕ) (w : Values Bit) : Type 0 where
  pub entry : Values Bit
  pub wakes : (c : Cell) → IsWakeCell (machine d) p c → entry c ≡ w c
  pub leaves : (c : Cell) → (machine d).blocking p c ≡ true → w c ≡ put_all entry (output (machine d) p entry) c

-- what p is sensitive to, and its blocking targets, are in w as in u
pub record AreKept (d : Design) (p : ℕ) (u w : Values Bit) : Type 0 where
  pub sensitive : (c : Cell) → is_level (process_at d p) c.thing ≡ true → w c ≡ u c
  pub targets : (c : Cell) → (machine d).blocking p c ≡ true → w c ≡ u c

-- the one evaluation of clean block p with trigger c over the step at suc t, from settled values u to w
pub record CleanEvaluation (d : Design) (h : Habit) (dump : BoundDump) (t : ℕ) (u w : Values Bit) (p : ℕ) (c : Cell) : Type 0 where
  pub entry : Values Bit
  pub trigger : entry c ≡ dump.values (suc t) c
  -- a bound input is old or new, bit by bit
  pub inputs : (b : Cell) → (machine d).is_input b ≡ true → dump.bound b.thing ≡ true → (entry b ≡ dump.values t b) ⊎ (entry b ≡ dump.values (suc t) b)
  -- what is neither the trigger nor early is as at the start
  pub others : (b : Cell) → b.thing ≢ c.thing → (IsEarlyAt d h dump (suc t) p c b.thing → ⊥) → entry b ≡ u b
  -- its targets end the step as it leaves them
  pub leaves : (b : Cell) → IsTarget (machine d) p b → w b ≡ put_all u (output (machine d) p entry) b

-- what holds of the settled values u and w at the ends of the step at suc t, whether the run has a step there or not
pub record StepFacts (d : Design) (h : Habit) (dump : BoundDump) (t : ℕ) (u w : Values Bit) : Type 0 where
  -- bound signals have the dump's values
  pub old : (c : Cell) → dump.bound c.thing ≡ true → c.place < (signal_at d c.thing).width → u c ≡ dump.values t c
  pub new : (c : Cell) → dump.bound c.thing ≡ true → c.place < (signal_at d c.thing).width → w c ≡ dump.values (suc t) c
  -- what may not move stays
  pub unmoved : (c : Cell) → (MayMoveAt d dump (suc t) c.thing → ⊥) → w c ≡ u c
  pub clean : (p : ℕ) (c : Cell) → IsCleanAt d dump (suc t) p c → CleanEvaluation d h dump t u w p c
  -- each process leaves its targets as some evaluations of it, in order, do
  pub evaluated : (p : ℕ) → (vs : List (Values Bit)) × ((c : Cell) → IsTarget (machine d) p c → w c ≡ put_all u (outputs (machine d) p vs) c)
  -- so do the targets of a Clocked that cannot wake
  pub asleep : (p : ℕ) → IsClocked (process_at d p) → (CanWakeSome d dump (suc t) p → ⊥) → (c : Cell) → IsTarget (machine d) p c → w c ≡ u c
  -- what is no input and no target stays
  pub unwritten : (c : Cell) → ((machine d).is_input c ≡ true → ⊥) → ((p : ℕ) → IsTarget (machine d) p c → ⊥) → w c ≡ u c
  -- the blocking targets of a process are as an evaluation leaves them that knew its settled wake cells, or nothing changes
  pub settles : (p : ℕ) → IsLeft d p w ⊎ AreKept d p u w

-- clean block p with trigger c is evaluated once in step k of the run, at suc t, on values that agree with what it knows on entry
pub record CleanAct (d : Design) (h : Habit) (dump : BoundDump) (r : Run) (t : ℕ) (k : StepOf r) (p : ℕ) (c : Cell) : Type 0 where
  pub once : CleanEvaluation d h dump t (settled d r t) (settled d r (suc t)) p c
  pub evaluated : evaluations_of d r k p ≡ once.entry ∷ []
  pub knows : Agrees d (KnownOnEntry d h dump (suc t) p) once.entry

-- what holds of the events of step k of the run, which is at suc t
pub record EventFacts (d : Design) (h : Habit) (dump : BoundDump) (r : Run) (t : ℕ) (k : StepOf r) : Type 0 where
  pub start : (start_of d r k).values ≡ settled d r t
  pub ends : (end_of d r k).values ≡ settled d r (suc t)
  -- what may not move does not change at any event
  pub unmoved : (c : Cell) → (MayMoveAt d dump (suc t) c.thing → ⊥)
      → (before after : List (Event Bit)) → k.step.events ≡ before ++ after → (end_state (machine d) (start_of d r k) before).values c ≡ settled d r t c
  pub clean : (p : ℕ) (c : Cell) → IsCleanAt d dump (suc t) p c → CleanAct d h dump r t k p c
  pub asleep : (p : ℕ) → IsClocked (process_at d p) → (CanWakeSome d dump (suc t) p → ⊥) → evaluations_of d r k p ≡ []
  -- each process is evaluated, at last on settled wake cells, or nothing that it is sensitive to changes
  pub settles : (p : ℕ) → EvaluatesSettled (machine d) p (start_of d r k) k.step.events ⊎ IsIdle (machine d) p (start_of d r k) k.step.events
  -- and where a wake cell changes it is so evaluated
  pub woken : (p : ℕ) (c : Cell) → IsWakeCell (machine d) p c → settled d r (suc t) c ≢ settled d r t c → EvaluatesSettled (machine d) p (start_of d r k) k.step.events

-- Step law: what holds of the settled values over each window time up to which the run shows the dump.
abbrev pub StepFactsLaw : Design → Habit → Type 0
StepFactsLaw d h =
    (dump : BoundDump) (r : Run) (t : ℕ) → BindsSignals d dump → IsShowing d h dump (suc t) r → IsWindow dump (suc t)
    → StepFacts d h dump t (settled d r t) (settled d r (suc t))

-- Event law: what holds of the events of each window step up to which the run shows the dump.
abbrev pub EventFactsLaw : Design → Habit → Type 0
EventFactsLaw d h =
    (dump : BoundDump) (r : Run) (t : ℕ) → BindsSignals d dump → IsShowing d h dump (suc t) r → IsWindow dump (suc t)
    → (k : StepOf r) → k.step.time ≡ suc t → EventFacts d h dump r t k

-- Clean-step law: at a window time at which a block is clean the run has a step.
abbrev pub CleanStepLaw : Design → Habit → Type 0
CleanStepLaw d h =
    (dump : BoundDump) (r : Run) (t : ℕ) → BindsSignals d dump → IsShowing d h dump (suc t) r → IsWindow dump (suc t)
    → (p : ℕ) (c : Cell) → IsCleanAt d dump (suc t) p c → (k : StepOf r) × (k.step.time ≡ suc t)

-- Rest law: at a window time that the dump does not list, where all inputs are bound, nothing changes and a step has no events.
abbrev pub UnlistedLaw : Design → Habit → Type 0
UnlistedLaw d h =
    (dump : BoundDump) (r : Run) (t : ℕ) → IsDumpOf d dump → IsShowing d h dump (suc t) r → IsWindow dump (suc t) → (IsListed dump (suc t) → ⊥)
    → (settled d r (suc t) ≡ settled d r t) × ((k : StepOf r) → k.step.time ≡ suc t → k.step.events ≡ [])

-- Left law: where the targets of a process are as an evaluation leaves them that began with its settled wake cells, they are so at each later time.
abbrev pub LeftStaysLaw : Design → Habit → Type 0
LeftStaysLaw d h = (r : Run) (t u p : ℕ) → IsRun d h r → t ≤ u → IsLeft d p (settled d r t) → IsLeft d p (settled d r u)

-- Queue law: an Assign queues no update.
abbrev pub AssignQueuesLaw : Design → Type 0
AssignQueuesLaw d = (p : ℕ) (v : Values Bit) → is_assign (process_at d p) ≡ true → (execution d (body_at d p) v).nonblocking ≡ []
