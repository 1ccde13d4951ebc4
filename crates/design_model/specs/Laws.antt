-- What is clear and what is forced holds, and what is reached is hit, in every run that shows the dump up to the time.
use Rattle.std.specs.Prelude.{◌≡◌, ◌≢◌, ℕ, suc, Bool, true, List, ⊤}
use Rattle.event_machine.specs.Cell.{Cell, Values}
use Rattle.event_machine.specs.Habit.{Habit}
use Rattle.four_state.specs.declared.bit.Bit.{Bit}
use Rattle.design_model.specs.Design.{Design, IsClocked, Thing, a_signal, body_at, process_at, signal_bits}
use Rattle.design_model.specs.Mentions.{body_mentions}
use Rattle.design_model.specs.Reads.{Agrees}
use Rattle.design_model.specs.Run.{Run, settled}
use Rattle.design_model.specs.Shows.{BindsSignals, BoundDump, IsContradicted, IsShowing, IsShown, IsWindow}
use Rattle.design_model.specs.Points.{IsBlock, IsHit, Point, line_point, logic_point}
use Rattle.design_model.specs.MayMove.{CanWakeSome, IsCleanAt}
use Rattle.design_model.specs.Early.{IsEarlyAt}
use Rattle.design_model.specs.Clear.{IsClearBy, IsForced, IsSignal, clear, clear_in, clear_start}
use Rattle.design_model.specs.Open.{IsReached}
use Rattle.design_model.specs.Doubt.{IsInDoubt, IsPointOn}

-- Clear law: in each run that shows the dump up to a time that the dump shows, the settled values there are those that are clear.
abbrev pub ClearLaw : Design → Habit → Type 0
ClearLaw d h =
    (dump : BoundDump) (r : Run) (t : ℕ) → BindsSignals d dump → IsShowing d h dump t r → IsShown dump t → Agrees d (clear d h dump t) (settled d r t)

-- Forced law: where some run shows the dump up to a time, each value that is forced there is the dump's.
abbrev pub ForcedLaw : Design → Habit → Type 0
ForcedLaw d h =
    (dump : BoundDump) (r : Run) (t : ℕ) → BindsSignals d dump → IsShowing d h dump t r → (s : ℕ) (bits : List Bit) → IsForced d h dump t s bits → signal_bits d (dump.values t) s ≡ bits

-- Contradiction law: where a forced value is not the dump's, no run shows the dump up to that time.
abbrev pub ContradictionLaw : Design → Habit → Type 0
ContradictionLaw d h =
    (dump : BoundDump) (t s : ℕ) (bits : List Bit) → BindsSignals d dump → IsForced d h dump t s bits → signal_bits d (dump.values t) s ≢ bits → IsContradicted d h dump t

-- Reached law: each point that a block reaches at a time is hit in every run that shows the dump up to that time.
abbrev pub ReachedLaw : Design → Habit → Type 0
ReachedLaw d h =
    (dump : BoundDump) (r : Run) (t : ℕ) → BindsSignals d dump → IsShowing d h dump t r → (p : ℕ) (x : Point) → IsReached d h dump t p x → IsHit d dump r x

-- Rounds law: what is clear in a round is clear in the next.
abbrev pub ClearRoundsLaw : Design → Habit → Type 0
ClearRoundsLaw d h =
    (dump : BoundDump) (t n : ℕ) (x : Thing) (bits : List Bit) → clear_in d h dump t (clear_start d h dump t) n x bits → clear_in d h dump t (clear_start d h dump t) (suc n) x bits

-- Least law: each map that is closed under the rules contains what is clear.
abbrev pub ClearLeastLaw : Design → Habit → Type 0
ClearLeastLaw d h =
    (dump : BoundDump) (t : ℕ) (has : Thing → List Bit → Bool)
    → ((x : Thing) (bits : List Bit) → IsClearBy d h dump t (clear_start d h dump t) (λ y w. has y w ≡ true) x bits → has x bits ≡ true)
    → (x : Thing) (bits : List Bit) → clear d h dump t x bits → has x bits ≡ true

-- Closed law: where some state agrees with what is clear, what a rule gives from it is clear.
abbrev pub ClearClosedLaw : Design → Habit → Type 0
ClearClosedLaw d h =
    (dump : BoundDump) (t : ℕ) (v : Values Bit) → Agrees d (clear d h dump t) v
    → (x : Thing) (bits : List Bit) → IsClearBy d h dump t (clear_start d h dump t) (clear d h dump t) x bits → clear d h dump t x bits

-- One-value law: where a run shows the dump up to a time that the dump shows, what is clear there has one value.
abbrev pub ClearValueLaw : Design → Habit → Type 0
ClearValueLaw d h =
    (dump : BoundDump) (r : Run) (t : ℕ) → BindsSignals d dump → IsShowing d h dump t r → IsShown dump t → (x : Thing) (a b : List Bit) → clear d h dump t x a → clear d h dump t x b → a ≡ b

-- Bound-clear law: a bound signal is clear at each time that the dump shows, with the dump's value.
abbrev pub BoundClearLaw : Design → Habit → Type 0
BoundClearLaw d h =
    (dump : BoundDump) (t s : ℕ) → IsShown dump t → dump.bound s ≡ true → IsSignal d s → clear d h dump t (a_signal s) (signal_bits d (dump.values t) s)

-- Clocked p is clean whenever it can wake, all that it mentions is bound, and of that only its trigger may be early
pub record IsDefinite (d : Design) (h : Habit) (dump : BoundDump) (p : ℕ) : Type 0 where
  pub clocked : IsClocked (process_at d p)
  pub clean : (t : ℕ) → IsWindow dump t → CanWakeSome d dump t p → (c : Cell) × IsCleanAt d dump t p c
  pub all_bound : (x : ℕ) → body_mentions x (body_at d p) ≡ true → dump.bound x ≡ true
  pub none_early : (t : ℕ) (c : Cell) → IsWindow dump t → IsCleanAt d dump t p c → (x : ℕ) → body_mentions x (body_at d p) ≡ true → x ≢ c.thing → IsEarlyAt d h dump t p c x → ⊥

-- a line or logic point
abbrev pub IsLineOrLogic : Point → Type 0
IsLineOrLogic (line_point p n at w) = ⊤
IsLineOrLogic (logic_point p n at op c) = ⊤
IsLineOrLogic _ = ⊥

-- Definiteness law: nothing is in doubt for a line or logic point of such a block.
abbrev pub DefinitenessLaw : Design → Habit → Type 0
DefinitenessLaw d h =
    (dump : BoundDump) → BindsSignals d dump → (p : ℕ) → IsDefinite d h dump p → (x : Point) → IsLineOrLogic x → IsBlock d x p → (t s : ℕ) → IsInDoubt d h dump x t s → ⊥

-- Bound-point law: nothing is in doubt for a toggle, state or arc point of a signal that the dump has.
abbrev pub BoundPointLaw : Design → Habit → Type 0
BoundPointLaw d h =
    (dump : BoundDump) (x : Point) (s : ℕ) → IsPointOn x s → IsSignal d s → dump.bound s ≡ true → (t q : ℕ) → IsInDoubt d h dump x t q → ⊥
