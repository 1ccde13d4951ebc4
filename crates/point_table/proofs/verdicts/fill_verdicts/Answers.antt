use Rattle.std.proofs.Common.{◌≡◌, ◌∙◌, ℕ, refl, arith, get_or}
use Rattle.std.proofs.Math.Seq.{map-set_same}
use Rattle.std.proofs.lemmas.List.{length-set}
use Rattle.coverage_db.specs.declared.db.DbPoint.{DbPoint}
use Rattle.coverage_db.specs.declared.verdict.DbVerdict.{DbVerdict}
use Rattle.design_model.specs.View.{design_view}
use Rattle.point_marks.specs.declared.verdict.Verdict.TheVariants.{Missed}
use Rattle.point_table.specs.Verdicts.{no_row, row_verdict}
use Rattle.point_table.proofs.Shown.{verdict_more}
use Rattle.point_table.proofs.verdicts.fill_verdicts.Goals as goal
use Rattle.point_table.proofs.verdicts.fill_verdicts.Goals.{in-Undetermined-1, in-Hit-1}

pub loop-number-preserved : goal.loop-number-preserved
loop-number-preserved c =
    let points = c.loop-number.points in
    let number = c.loop-number.number in
    let was = c.index-points-number.result in
    let row : DbPoint = record { address = (get_or points number was).address; verdict = c.in_ok-points.field-0 } in
    let as_many = length-set points number row ∙ c.loop-number.invariant.count in
    let same = map-set_same (λ (p : DbPoint). p.address) points number row was refl ∙ c.loop-number.invariant.points in
    let is_at : ℕ → DbVerdict → Type 0 = λ (k : ℕ). λ (v : DbVerdict). v ≡ row_verdict (design_view c.args.design.now) (get_or c.args.marks.now.verdicts k Missed) in
    elim c.match-points-number.branch [
      | in-Undetermined-1 w ↦ record {
        count = as_many;
        points = same;
        verdicts = verdict_more is_at points number row no_row (omega arith) c.loop-number.invariant.verdicts c.in_ok-points.ensures;
      }
      | in-Hit-1 w ↦ record {
        count = as_many;
        points = same;
        verdicts = verdict_more is_at points number row no_row (omega arith) c.loop-number.invariant.verdicts c.in_ok-points.ensures;
      }
    ]
