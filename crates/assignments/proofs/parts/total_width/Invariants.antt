use Rattle.std.proofs.Common.{◌≡◌, ◌+◌, drop}
use Rattle.assignments.specs.Pieces.{widths}
use Rattle.assignments.proofs.parts.total_width.Given as goal

-- the widths so far and those of the rest are those of all
abbrev pub invariant-loop-piece : goal.invariant-loop-piece
invariant-loop-piece l = l.total + widths (drop l.piece-index l.pieces) ≡ widths l.pieces
