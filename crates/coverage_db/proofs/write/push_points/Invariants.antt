use Rattle.std.proofs.Common.{◌≡◌, ◌++◌, drop, map}
use Rattle.coverage_db.specs.Text.{text_of_lines, point_line}
use Rattle.coverage_db.proofs.write.push_points.Given as goal

abbrev pub invariant-loop-point : goal.invariant-loop-point
invariant-loop-point l = l.text ++ text_of_lines (map (point_line l.instances) (drop l.point-index l.points)) ≡ l.fn.text ++ text_of_lines (map (point_line l.instances) l.points)
