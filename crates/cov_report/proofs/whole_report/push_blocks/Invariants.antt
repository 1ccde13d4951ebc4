use Rattle.std.proofs.Common.{◌≡◌, ◌++◌, drop, map}
use Rattle.std.specs.List.{flat_map}
use Rattle.coverage_db.specs.Text.{text_of_lines}
use Rattle.cov_report.specs.declared.block.Block.{Block}
use Rattle.cov_report.specs.Points.{points_in}
use Rattle.cov_report.specs.Report.{block_lines}
use Rattle.cov_report.specs.Views.{report_point, block_instance}
use Rattle.cov_report.proofs.whole_report.push_blocks.Given as goal

abbrev pub invariant-loop-block : goal.invariant-loop-block
invariant-loop-block l =
    l.text ++ text_of_lines (flat_map (λ (b : Block). block_lines l.options (block_instance b) (points_in l.options (block_instance b) (map report_point l.points))) (drop l.block-index l.blocks))
    ≡ l.fn.text ++ text_of_lines (flat_map (λ (b : Block). block_lines l.options (block_instance b) (points_in l.options (block_instance b) (map report_point l.points))) l.blocks)
