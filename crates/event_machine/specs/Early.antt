-- What is early for a clean block: what may change before the block is evaluated.
use Rattle.std.specs.Prelude.{◌≡◌, ◌≢◌, ℕ, true}
use Rattle.event_machine.specs.Cell.{Cell}
use Rattle.event_machine.specs.Machine.{Machine}
use Rattle.event_machine.specs.Habit.{Habit, is_free_input}
use Rattle.event_machine.specs.Told.{Told, IsMovingInput}
use Rattle.event_machine.specs.MayMove.{MayWake}

-- the least set, without trigger c of block b, with each free moving input, the blocking targets of each other process
-- that c or a member may wake, and the nonblocking targets of each process that a member may wake
pub data IsEarly {V : Type 0} (m : Machine V) (t : Told V) (single : Cell → Type 0) (h : Habit) (b : ℕ) (c : Cell) : ℕ → Type 0 where
  of_input : (d : Cell) → IsMovingInput m t d → (m.is_input c ≡ true → is_free_input m h d.thing ≡ true) → d.thing ≢ c.thing → IsEarly m t single h b c d.thing
  of_trigger : (p : ℕ) (d : Cell) → MayWake m t single c.thing p → p ≢ b → m.blocking p d ≡ true → d.thing ≢ c.thing → IsEarly m t single h b c d.thing
  of_blocking : (x p : ℕ) (d : Cell) → IsEarly m t single h b c x → MayWake m t single x p → p ≢ b → m.blocking p d ≡ true → d.thing ≢ c.thing → IsEarly m t single h b c d.thing
  of_nonblocking : (x p : ℕ) (d : Cell) → IsEarly m t single h b c x → MayWake m t single x p → m.nonblocking p d ≡ true → d.thing ≢ c.thing → IsEarly m t single h b c d.thing
