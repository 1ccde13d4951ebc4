use Rattle.std.proofs.Common.{◌≡◌, ◌++◌, drop, map}
use Rattle.std.specs.List.{filter_map}
use Rattle.lcov_text.specs.Points.{trace_point}
use Rattle.lcov_text.specs.Views.{trace_view}
use Rattle.lcov_text.proofs.points.placed_points.Given as goal

-- what is left is placed as all is
abbrev pub invariant-loop-point : goal.invariant-loop-point
invariant-loop-point l = map trace_view l.points.items ++ filter_map (trace_point l.db.instances) (drop l.point-index l.db.points) ≡ filter_map (trace_point l.db.instances) l.db.points
