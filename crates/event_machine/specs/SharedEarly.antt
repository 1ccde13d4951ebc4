-- Blocks that share what is early for a trigger.
use Rattle.std.specs.Prelude.{◌≡◌, ℕ, false}
use Rattle.event_machine.specs.Cell.{Cell}
use Rattle.event_machine.specs.Machine.{Machine}
use Rattle.event_machine.specs.Habit.{Habit}
use Rattle.event_machine.specs.Told.{Told}
use Rattle.event_machine.specs.Early.{IsEarly}
use Rattle.event_machine.specs.Single.{IsSingle}

-- the process writes nothing by blocking writes
abbrev pub HasNoBlocking : {V : Type 0} → Machine V → ℕ → Type 0
HasNoBlocking m p = (c : Cell) → m.blocking p c ≡ false

-- Sharing law: what is early for a trigger is the same for two blocks without blocking targets.
abbrev pub SharedEarlyLaw : {V : Type 0} → Machine V → Type 0
SharedEarlyLaw {V} m =
    (n : ℕ) (t : Told V) (h : Habit) (a b : ℕ) (c : Cell)
    → HasNoBlocking m a → HasNoBlocking m b
    → (x : ℕ) → IsEarly m t (IsSingle m t n) h a c x → IsEarly m t (IsSingle m t n) h b c x
