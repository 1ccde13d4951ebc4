use Rattle.std.proofs.Common.{◌≡◌, ◌∙◌, ℕ, length, ap}
use Rattle.std.specs.Prelude.{replicate}
use Rattle.std.proofs.lemmas.List.{length-replicate}
use Rattle.cover_points.specs.Listed.{points_of}
use Rattle.point_marks.specs.declared.verdict.Verdict.TheVariants.{Missed}
use Rattle.cover_marks.proofs.marks.Marks.new.Goals as goal

pub returns-clause-points : goal.returns-clause-points
returns-clause-points c =
    let all = length (points_of c.args.points.now) in
    let verdicts : c.in_ok-verdicts.verdicts ≡ replicate all Missed = c.in_ok-verdicts.ensures.verdicts ∙ ap (λ (n : ℕ). replicate n Missed) c.count_of.ensures in
    record {
      index = c.in_ok-index.ensures;
      count = ap length verdicts ∙ length-replicate all Missed;
      counts = c.in_ok-open_points.ensures c.in_ok-verdicts.verdicts verdicts;
    }
