-- What moves in a step, as tests: what the replay asks of the sets, whatever holds them.
use Rattle.std.specs.Prelude.{◌≡◌, ◌↔◌, ◌<◌, ℕ, Bool, true, Option, Some, None}
use Rattle.event_machine.specs.Cell.{Cell}
use Rattle.event_machine.specs.Habit.{Habit}
use Rattle.event_machine.specs.Single.{IsSingle}
use Rattle.design_model.specs.Design.{Design, cell}
use Rattle.design_model.specs.Machine.{machine}
use Rattle.design_model.specs.Shows.{BoundDump}
use Rattle.design_model.specs.MayMove.{CanWakeAt, CanWakeSome, IsCleanAt, MayMoveAt, told_at}
use Rattle.design_model.specs.Early.{IsEarlyAt}

-- the sets of a step
pub record Sets : Type 0 where
  pub moves : ℕ → Bool  -- the signal or memory may move
  pub trigger : ℕ → Option ℕ  -- the trigger of a Clocked, where it is clean
  pub round : ℕ → ℕ  -- of a clean Clocked: the round in which its trigger became single
  pub wakes : ℕ → Option ℕ  -- the first event signal by which a Clocked can wake
  pub early : ℕ → ℕ → Bool  -- of a clean Clocked: the signal or memory is early

-- cell c is single in round n of the step at time t, and in none before
pub record IsFirstRound (d : Design) (dump : BoundDump) (t : ℕ) (c : Cell) (n : ℕ) : Type 0 where
  pub single : IsSingle (machine d) (told_at dump t) n c
  pub not_before : (k : ℕ) → k < n → IsSingle (machine d) (told_at dump t) k c → ⊥

-- the sets are those of the step at time t, by the round of single cells by which the step is judged
pub record AreSets (d : Design) (h : Habit) (dump : BoundDump) (t : ℕ) (a : Sets) : Type 0 where
  pub moves : (x : ℕ) → (a.moves x ≡ true) ↔ MayMoveAt d dump t x
  pub trigger : (p s : ℕ) → a.trigger p ≡ Some s → IsCleanAt d dump t p (cell s 0)
  pub no_trigger : (p : ℕ) → a.trigger p ≡ None → (c : Cell) → IsCleanAt d dump t p c → ⊥
  pub round : (p s : ℕ) → a.trigger p ≡ Some s → IsFirstRound d dump t (cell s 0) (a.round p)
  pub wakes : (p s : ℕ) → a.wakes p ≡ Some s → CanWakeAt d dump t (cell s 0) p
  pub no_wakes : (p : ℕ) → a.wakes p ≡ None → CanWakeSome d dump t p → ⊥
  pub early : (p : ℕ) (c : Cell) → IsCleanAt d dump t p c → (x : ℕ) → (a.early p x ≡ true) ↔ IsEarlyAt d h dump t p c x
