use Rattle.std.proofs.Common.{◌≡◌, ◌++◌, List, ℕ, map, sym, ap, subst, ◌∙◌}
use Rattle.std.specs.Prelude.{bytes_eq}
use Rattle.std.specs.List.{filter}
use Rattle.coverage_db.specs.Text.{text_of_lines}
use Rattle.coverage_db.specs.declared.db.DbInstance.{DbInstance}
use Rattle.cov_report.specs.declared.block.Block.{Block}
use Rattle.cov_report.specs.Points.{ReportPoint, points_in}
use Rattle.cov_report.specs.Report.{block_lines}
use Rattle.cov_report.specs.Views.{report_point, block_instance}
use Rattle.cov_report.proofs.Lines.{lines_more, lines_done}
use Rattle.cov_report.proofs.Viewing.{IsNamed}
use Rattle.cov_report.proofs.whole_report.push_blocks.Goals as goal

pub loop-block-preserved : goal.loop-block-preserved
loop-block-preserved c =
    let named : IsNamed c.args.options.now c.block-item.result = subst (IsNamed c.args.options.now) (sym c.block-item.is) (c.requires.names c.loop-block.block-index c.block-item.result c.loop-block-test.true) in
    let same : map report_point c.points_of.result.now ≡ points_in c.args.options.now c.block-item.result.instance.now (map report_point c.args.points.now) =
    c.points_of.ensures.points ∙ ap (λ (n : List ℕ). filter (λ (q : ReportPoint). bytes_eq q.name n) (map report_point c.args.points.now)) named in
    lines_more (λ (b : Block). block_lines c.args.options.now (block_instance b) (points_in c.args.options.now (block_instance b) (map report_point c.args.points.now))) c.loop-block.text c.push_block.new.text _ c.args.blocks.now c.loop-block.block-index
    c.block-item.result c.loop-block-test.true c.block-item.is
    (c.in_ok-push_block.ensures ∙ ap (λ (t : List ReportPoint). c.loop-block.text ++ text_of_lines (block_lines c.args.options.now c.block-item.result.instance.now t)) same) c.loop-block.invariant

pub returns : goal.returns
returns c =
    lines_done (λ (block : DbInstance). block_lines c.args.options.now block (points_in c.args.options.now block (map report_point c.args.points.now))) block_instance c.loop-block.text c.args.text.now c.args.blocks.now c.loop-block.block-index c.loop-block-test.false
    c.loop-block.invariant
