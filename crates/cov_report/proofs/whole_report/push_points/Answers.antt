use Rattle.cov_report.specs.Report.{point_lines}
use Rattle.cov_report.specs.Views.{report_point}
use Rattle.cov_report.proofs.Lines.{lines_done}
use Rattle.cov_report.proofs.whole_report.push_points.Goals as goal

pub returns : goal.returns
returns c = lines_done (point_lines c.args.options.now) report_point c.loop-point.text c.args.text.now c.args.points.now c.loop-point.point-index c.loop-point-test.false c.loop-point.invariant
