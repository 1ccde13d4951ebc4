use Rattle.std.proofs.Common.{◌≡◌, ◌++◌, drop, map}
use Rattle.std.specs.List.{filter}
use Rattle.coverage_db.specs.Text.{text_of_lines}
use Rattle.cov_report.specs.Metrics.{metrics, metric_name, is_chosen}
use Rattle.cov_report.specs.Report.{metric_lines, summary_line, of_metric}
use Rattle.cov_report.specs.Views.{report_point}
use Rattle.cov_report.proofs.whole_report.push_metrics.Given as goal

abbrev pub invariant-loop-metric : goal.invariant-loop-metric
invariant-loop-metric l =
    l.text ++ text_of_lines (map (λ metric. summary_line (metric_name metric) (of_metric metric (map report_point l.points))) (filter (is_chosen l.options.letters) (drop l.metric-index metrics)))
    ≡ l.fn.text ++ text_of_lines (metric_lines l.options (map report_point l.points))
