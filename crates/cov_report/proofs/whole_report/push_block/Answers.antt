use Rattle.std.proofs.Common.{◌≡◌, ◌++◌, ◌∷◌, List, map, sym, ap, ◌∙◌, inl, inr}
use Rattle.std.specs.Prelude.{codes}
use Rattle.std.specs.List.{flat_map}
use Rattle.std.proofs.lemmas.Result.{IfOk-equal}
use Rattle.coverage_db.specs.Text.{text_of_lines}
use Rattle.cov_report.specs.declared.options.Level.{Level}
use Rattle.cov_report.specs.Points.{ReportPoint}
use Rattle.cov_report.specs.Report.{heading, metric_lines, point_lines, listed}
use Rattle.cov_report.specs.Views.{report_point}
use Rattle.cov_report.proofs.Lines.{block_alone, block_with}
use Rattle.cov_report.proofs.whole_report.push_block.Goals as goal

pub returns-in-Summary : goal.returns-in-Summary
returns-in-Summary c = rw c.in-Summary.is (block_alone (heading c.args.options.now c.args.block.now) (codes "metric       hit  missed   undet   pct") (metric_lines c.args.options.now (map report_point c.args.points.now)) c.args.text.now c.push_heading.new.text c.extend_from_slice.new.self c.push_metrics.new.text c.in_ok-push_heading.ensures c.in_ok-extend_from_slice.ensures.ok c.in_ok-push_metrics.ensures)

pub returns-in-Detailed : goal.returns-in-Detailed
returns-in-Detailed c =
    let points : List ReportPoint = map report_point c.args.points.now in
    let all : listed c.args.options.now.level points ≡ points = elim c.in-Detailed.is [
      | inl e ↦ ap (λ (l : Level). listed l points) e
      | inr e ↦ ap (λ (l : Level). listed l points) e
    ] in
    IfOk-equal c.push_points.result _ _ _ c.push_points.ensures
    (block_with (heading c.args.options.now c.args.block.now) (codes "metric       hit  missed   undet   pct") (metric_lines c.args.options.now (map report_point c.args.points.now)) (flat_map (point_lines c.args.options.now) (map report_point c.args.points.now)) c.args.text.now c.push_heading.new.text c.extend_from_slice.new.self c.push_metrics.new.text c.in_ok-push_heading.ensures c.in_ok-extend_from_slice.ensures.ok c.in_ok-push_metrics.ensures
    ∙ ap (λ (t : List ReportPoint). c.args.text.now ++ text_of_lines (heading c.args.options.now c.args.block.now ∷ codes "metric       hit  missed   undet   pct" ∷ metric_lines c.args.options.now points ++ flat_map (point_lines c.args.options.now) t)) (sym all))
