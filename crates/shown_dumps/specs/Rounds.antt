-- What holds of a dump of which each step is judged by its last round.
use Rattle.std.specs.Prelude.{ℕ}
use Rattle.design_model.specs.Design.{Design}
use Rattle.design_model.specs.MayMove.{AreLastRounds}
use Rattle.design_model.specs.RoundLaws.{read_by}
use Rattle.design_model.specs.Shows.{BoundDump}

-- this holds of what the dump says, read by the last round of each step
abbrev pub ByLastRounds : Design → BoundDump → (BoundDump → Type 0) → Type 0
ByLastRounds d dump holds = (rounds : ℕ → ℕ) → AreLastRounds d (read_by dump rounds) → holds (read_by dump rounds)
