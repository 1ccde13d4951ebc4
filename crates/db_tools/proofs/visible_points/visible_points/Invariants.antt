use Rattle.std.proofs.Common.{◌≡◌, ◌++◌, drop}
use Rattle.db_tools.specs.Excluded.{unmarked}
use Rattle.db_tools.proofs.visible_points.visible_points.Given as goal

abbrev pub invariant-loop-place : goal.invariant-loop-place
invariant-loop-place l = l.seen ++ unmarked (drop l.place l.points) (drop l.place l.marks) ≡ unmarked l.points l.marks
