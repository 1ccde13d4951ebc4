use Rattle.std.proofs.Common.{map, ap, ◌∙◌}
use Rattle.std.proofs.lemmas.Result.{IfOk-weaker}
use Rattle.cov_report.specs.Gathered.{gathered}
use Rattle.cov_report.specs.Points.{point_cmp, joined_point}
use Rattle.cov_report.specs.Views.{report_point}
use Rattle.cov_report.proofs.Viewing.{points_view}
use Rattle.cov_report.proofs.counted.counted_points.Goals as goal

pub returns-clause-points : goal.returns-clause-points
returns-clause-points c =
    IfOk-weaker c.gather.result _ _ (λ v e. ap (map report_point) e ∙ points_view c.in_ok-chosen_points.field-0.items ∙ ap (gathered point_cmp joined_point) c.in_ok-chosen_points.ensures.points) c.gather.ensures.gathered
