use Rattle.std.proofs.Common.{rules, ◌≡◌, sym, ◌∙◌}
use Rattle.std.specs.Prelude.{count_by}
use Rattle.lcov_text.specs.declared.traced.Traced.{Traced}
use Rattle.lcov_text.proofs.Lines.{hits_view}
use Rattle.lcov_text.proofs.record.hit_count.Goals as goal

pub returns : goal.returns
returns c =
    let counted : c.count.result ≡ count_by (λ (p : Traced). p.is_hit) c.args.points.now = search rules in
    counted ∙ sym (hits_view c.args.points.now)
