use Rattle.db_tools.specs.Views.{texts}
use Rattle.db_tools.proofs.GreedyLaws.{Matches}
use Rattle.db_tools.proofs.marking.match_points.Given as goal

abbrev pub invariant-loop-point : goal.invariant-loop-point
invariant-loop-point l = Matches l.instances l.points (texts l.lines) l.point-index l.matched l.marks.items
