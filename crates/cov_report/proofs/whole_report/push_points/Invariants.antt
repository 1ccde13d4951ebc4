use Rattle.std.proofs.Common.{◌≡◌, ◌++◌, drop}
use Rattle.std.specs.List.{flat_map}
use Rattle.coverage_db.specs.Text.{text_of_lines}
use Rattle.cov_report.specs.declared.counted.Counted.{Counted}
use Rattle.cov_report.specs.Report.{point_lines}
use Rattle.cov_report.specs.Views.{report_point}
use Rattle.cov_report.proofs.whole_report.push_points.Given as goal

abbrev pub invariant-loop-point : goal.invariant-loop-point
invariant-loop-point l =
    l.text ++ text_of_lines (flat_map (λ (p : Counted). point_lines l.options (report_point p)) (drop l.point-index l.points)) ≡ l.fn.text ++ text_of_lines (flat_map (λ (p : Counted). point_lines l.options (report_point p)) l.points)
