-- The cells that change at most once in a step, in rounds: reported inputs, and what clean blocks write once.
use Rattle.std.specs.Prelude.{◌≡◌, ◌⊎◌, ◌↔◌, ◌<◌, zero, suc, ℕ, true, false}
use Rattle.event_machine.specs.Cell.{Cell}
use Rattle.event_machine.specs.Machine.{Machine, IsTarget}
use Rattle.event_machine.specs.Told.{Told, IsToldInput}
use Rattle.event_machine.specs.MayMove.{CanWake, IsClean}

-- a reported event signal's cell that one Clocked writes, by its text at most once in each evaluation, and that Clocked cannot wake or is clean
pub record IsWrittenOnce {V : Type 0} (m : Machine V) (t : Told V) (single : Cell → Type 0) (c : Cell) : Type 0 where
  pub told : t.is_told c.thing ≡ true
  pub is_event : m.is_event_signal c.thing ≡ true
  pub writer : ℕ
  pub writes : IsTarget m writer c
  pub clocked : (x : ℕ) → m.level writer x ≡ false
  pub once : m.writes_once writer c ≡ true
  pub cannot_wake_or_clean : ((d : Cell) → CanWake m t single d writer → ⊥) ⊎ ((d : Cell) × IsClean m t single writer d)

-- the single cells of each round: the reported inputs, and what is written once by the sets of the round before
abbrev pub IsSingle : {V : Type 0} → Machine V → Told V → ℕ → Cell → Type 0
IsSingle m t zero c = IsToldInput m t c
IsSingle m t (suc n) c = IsToldInput m t c ⊎ IsWrittenOnce m t (IsSingle m t n) c

-- the next round has the same single cells
abbrev pub IsSameNext : {V : Type 0} → Machine V → Told V → ℕ → Type 0
IsSameNext m t n = (c : Cell) → IsSingle m t n c ↔ IsSingle m t (suc n) c

-- the last round: the first after which nothing changes
pub record IsLastRound {V : Type 0} (m : Machine V) (t : Told V) (n : ℕ) : Type 0 where
  pub same_next : IsSameNext m t n
  pub is_first : (k : ℕ) → k < n → IsSameNext m t k → ⊥
