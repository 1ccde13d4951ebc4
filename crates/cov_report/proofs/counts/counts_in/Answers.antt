use Rattle.std.proofs.Common.{rules, ◌≡◌, ◌&&◌, ◌==◌, sym, ◌∙◌}
use Rattle.std.specs.Prelude.{count_by}
use Rattle.coverage_db.specs.Order.{letter_rank}
use Rattle.cov_report.specs.declared.counted.Counted.{Counted}
use Rattle.cov_report.specs.Metrics.{metric_rank}
use Rattle.cov_report.specs.Report.{is_hit, is_missed, is_undetermined}
use Rattle.cov_report.proofs.Counting.{counted_metric}
use Rattle.cov_report.proofs.counts.counts_in.Goals as goal

pub returns-clause-hit : goal.returns-clause-hit
returns-clause-hit c =
    let e : c.count.result ≡ count_by (λ (p : Counted). (letter_rank p.subject.now == metric_rank c.args.metric) && is_hit p.verdict.now) c.args.points.now = search rules in
    e ∙ sym (counted_metric is_hit c.args.metric c.args.points.now)

pub returns-clause-missed : goal.returns-clause-missed
returns-clause-missed c =
    let e : c.count-2.result ≡ count_by (λ (p : Counted). (letter_rank p.subject.now == metric_rank c.args.metric) && is_missed p.verdict.now) c.args.points.now = search rules in
    e ∙ sym (counted_metric is_missed c.args.metric c.args.points.now)

pub returns-clause-undetermined : goal.returns-clause-undetermined
returns-clause-undetermined c =
    let e : c.count-3.result ≡ count_by (λ (p : Counted). (letter_rank p.subject.now == metric_rank c.args.metric) && is_undetermined p.verdict.now) c.args.points.now = search rules in
    e ∙ sym (counted_metric is_undetermined c.args.metric c.args.points.now)
