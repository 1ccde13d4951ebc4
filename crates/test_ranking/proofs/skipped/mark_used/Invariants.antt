use Rattle.std.proofs.Common.{take}
use Rattle.test_ranking.specs.Ranking.{AreMarked}
use Rattle.test_ranking.proofs.skipped.mark_used.Given as goal

abbrev pub invariant-loop-used : goal.invariant-loop-used
invariant-loop-used l = AreMarked l.count (take l.used-index l.fn.used) l.marks.items
