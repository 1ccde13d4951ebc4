use Rattle.std.proofs.Common.{◌≡◌, length}
use Rattle.bench.proofs.tables.make_points.Given as goal

abbrev pub invariant-loop-number : goal.invariant-loop-number
invariant-loop-number l = length l.points ≡ l.number
