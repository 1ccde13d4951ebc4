-- What may move at a time of the dump, which Clocked can wake, and which is clean.
use Rattle.std.specs.Prelude.{◌≡◌, ◌-◌, ℕ}
use Rattle.event_machine.specs.Cell.{Cell}
use Rattle.event_machine.specs.Told.{Told}
use Rattle.event_machine.specs.MayMove.{CanWake, IsClean, MayMove}
use Rattle.event_machine.specs.Single.{IsLastRound, IsSingle}
use Rattle.four_state.specs.declared.bit.Bit.{Bit}
use Rattle.design_model.specs.Design.{Design}
use Rattle.design_model.specs.Machine.{machine}
use Rattle.design_model.specs.Shows.{BoundDump}

-- what the dump gives of the step at a time: the bound signals, before and after
abbrev pub told_at : BoundDump → ℕ → Told Bit
told_at dump t = record { is_told = dump.bound; old = dump.values (t - 1); new = dump.values t }

-- the cell is known to change at most once in the step, as the dump gives it: it is single in the round of the step
abbrev pub IsSingleAt : Design → BoundDump → ℕ → Cell → Type 0
IsSingleAt d dump t = IsSingle (machine d) (told_at dump t) (dump.round t)

-- each step is judged by round 0, in which the bound inputs alone are single, so no derived clock is a trigger
abbrev pub AreFirstRounds : BoundDump → Type 0
AreFirstRounds dump = (t : ℕ) → dump.round t ≡ 0

-- each step is judged by its last round, so that derived clocks are triggers where they can be
abbrev pub AreLastRounds : Design → BoundDump → Type 0
AreLastRounds d dump = (t : ℕ) → IsLastRound (machine d) (told_at dump t) (dump.round t)

-- signal or memory x may move at t
abbrev pub MayMoveAt : Design → BoundDump → ℕ → ℕ → Type 0
MayMoveAt d dump t x = MayMove (machine d) (told_at dump t) (IsSingleAt d dump t) x

-- Clocked p can wake, by event signal c
abbrev pub CanWakeAt : Design → BoundDump → ℕ → Cell → ℕ → Type 0
CanWakeAt d dump t c p = CanWake (machine d) (told_at dump t) (IsSingleAt d dump t) c p

-- Clocked p can wake at t
abbrev pub CanWakeSome : Design → BoundDump → ℕ → ℕ → Type 0
CanWakeSome d dump t p = (c : Cell) × CanWakeAt d dump t c p

-- Clocked p is clean, with trigger c
abbrev pub IsCleanAt : Design → BoundDump → ℕ → ℕ → Cell → Type 0
IsCleanAt d dump t p c = IsClean (machine d) (told_at dump t) (IsSingleAt d dump t) p c
