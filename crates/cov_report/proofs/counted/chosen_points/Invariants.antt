use Rattle.std.proofs.Common.{◌≡◌, ◌≤◌, ◌++◌, drop, map, length}
use Rattle.std.specs.List.{filter}
use Rattle.cov_report.specs.Points.{point_of, is_counted}
use Rattle.cov_report.specs.Views.{report_point}
use Rattle.cov_report.proofs.counted.chosen_points.Given as goal

-- what is left is counted as all is
abbrev pub invariant-loop-point : goal.invariant-loop-point
invariant-loop-point l = record {
  points : map report_point l.points.items ++ map (point_of l.options l.db.instances) (filter (is_counted l.options) (drop l.point-index l.db.points)) ≡ map (point_of l.options l.db.instances) (filter (is_counted l.options) l.db.points);
  few : length l.points.items ≤ l.point-index;
}
