-- The end of the rounds of single cells.
use Rattle.std.specs.Prelude.{◌↔◌, ◌≤◌, ℕ}
use Rattle.event_machine.specs.Cell.{Cell}
use Rattle.event_machine.specs.Machine.{Machine}
use Rattle.event_machine.specs.Told.{Told}
use Rattle.event_machine.specs.MayMove.{CanWake, IsClean, MayMove}
use Rattle.event_machine.specs.Single.{IsSameNext, IsSingle}

-- the sets of two rounds are the same
pub record AreSameRounds {V : Type 0} (m : Machine V) (t : Told V) (n k : ℕ) : Type 0 where
  pub single : (c : Cell) → IsSingle m t n c ↔ IsSingle m t k c
  pub may_move : (x : ℕ) → MayMove m t (IsSingle m t n) x ↔ MayMove m t (IsSingle m t k) x
  pub can_wake : (c : Cell) (p : ℕ) → CanWake m t (IsSingle m t n) c p ↔ CanWake m t (IsSingle m t k) c p
  pub clean : (p : ℕ) (c : Cell) → IsClean m t (IsSingle m t n) p c ↔ IsClean m t (IsSingle m t k) p c

-- Last-round law: from a round on whose single cells are those of the next, nothing changes.
abbrev pub LastRoundLaw : {V : Type 0} → Machine V → Type 0
LastRoundLaw {V} m = (t : Told V) (n k : ℕ) → IsSameNext m t n → n ≤ k → AreSameRounds m t n k
