use Rattle.std.proofs.Common.{◌≡◌, ◌++◌, List, ℕ, map, refl, sym, ap, ◌∙◌}
use Rattle.std.specs.Prelude.{codes}
use Rattle.coverage_db.specs.Text.{text_of_lines}
use Rattle.cov_report.specs.Points.{blocks, report_points}
use Rattle.cov_report.specs.Report.{report_head, count_of, is_hit, is_missed, is_undetermined}
use Rattle.cov_report.specs.Views.{report_point, block_instance}
use Rattle.cov_report.proofs.Lines.{counts_same, whole_written}
use Rattle.cov_report.proofs.whole_report.report.Goals as goal

pub returns : goal.returns
returns c =
    let points : map report_point c.deref-2.result.now ≡ report_points c.args.options.now c.args.db.now = ap (map report_point) c.deref-2.ensures.value ∙ c.in_ok-points.ensures.points in
    let heads : map block_instance c.deref.result.now ≡ blocks c.args.options.now c.args.db.now.instances = ap (map block_instance) c.deref.ensures.value ∙ c.in_ok-blocks.ensures.blocks ∙ ap (blocks c.args.options.now) c.as_slice.ensures in
    let same : map report_point c.deref-3.result.now ≡ map report_point c.deref-2.result.now = ap (map report_point) (c.deref-3.ensures.value ∙ sym c.deref-2.ensures.value) in
    whole_written c.args.db.now c.args.options.now (map report_point c.deref-2.result.now) (map block_instance c.deref.result.now) c.push_head.new.text c.push_blocks.new.text c.push_counts.new.text c.push.new.self points heads
    (c.in_ok-push_head.ensures ∙ ap (λ (t : List ℕ). t ++ text_of_lines (report_head c.args.options.now c.args.db.now)) c.new-text.ensures) c.in_ok-push_blocks.ensures
    (c.in_ok-push_counts.ensures ∙ ap (λ (t : List ℕ). c.push_blocks.new.text ++ t) (counts_same (codes "all") (codes "all") _ _ _ _ _ _ refl (c.counts_of.ensures.hit ∙ ap (count_of is_hit) same) (c.counts_of.ensures.missed ∙ ap (count_of is_missed) same) (c.counts_of.ensures.undetermined ∙ ap (count_of is_undetermined) same)))
    c.in_ok-push.ensures.ok
