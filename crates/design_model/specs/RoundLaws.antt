-- The rounds of single cells in a design.
use Rattle.std.specs.Prelude.{◌↔◌, ℕ}
use Rattle.event_machine.specs.Cell.{Cell}
use Rattle.event_machine.specs.Told.{IsToldInput}
use Rattle.event_machine.specs.Laws.{IsDecided, RoundGrows}
use Rattle.event_machine.specs.Single.{IsLastRound}
use Rattle.design_model.specs.Design.{Design}
use Rattle.design_model.specs.Machine.{machine}
use Rattle.design_model.specs.Shows.{BoundDump}
use Rattle.design_model.specs.MayMove.{AreFirstRounds, AreLastRounds, IsSingleAt, told_at}

-- Decided law: in each round it is decided which process can wake by which cell.
abbrev pub DecidedRoundsLaw : Design → Type 0
DecidedRoundsLaw d = (dump : BoundDump) (t : ℕ) → IsDecided (machine d) (told_at dump t)

-- Growth law: from round to round the single cells grow, and what may move and what can wake shrinks.
abbrev pub GrowingRoundsLaw : Design → Type 0
GrowingRoundsLaw d = (dump : BoundDump) (t n : ℕ) → RoundGrows (machine d) (told_at dump t) n

-- End law: at each time there is a last round.
abbrev pub EndingRoundsLaw : Design → Type 0
EndingRoundsLaw d = (dump : BoundDump) (t : ℕ) → (n : ℕ) × IsLastRound (machine d) (told_at dump t) n

-- First-rounds law: read by first rounds a dump has its bound inputs alone as single cells.
abbrev pub FirstRoundsLaw : Design → Type 0
FirstRoundsLaw d =
    (dump : BoundDump) → AreFirstRounds dump → (t : ℕ) (c : Cell) → IsSingleAt d dump t c ↔ IsToldInput (machine d) (told_at dump t) c

-- the dump, read by these rounds
abbrev pub read_by : BoundDump → (ℕ → ℕ) → BoundDump
read_by dump rounds = record dump { round = rounds }

-- Last-rounds law: each dump can be read by last rounds.
abbrev pub LastRoundsLaw : Design → Type 0
LastRoundsLaw d = (dump : BoundDump) → (rounds : ℕ → ℕ) × AreLastRounds d (read_by dump rounds)
