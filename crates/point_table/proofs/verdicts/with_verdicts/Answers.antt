use Rattle.std.proofs.Common.{◌≡◌, ◌∙◌, ap, drop, length, subst, sym, rules}
use Rattle.std.proofs.Math.Seq.{take-append_seam}
use Rattle.std.proofs.lemmas.List.{length-map}
use Rattle.std.specs.Prelude.{◌++◌, take}
use Rattle.coverage_db.specs.declared.db.DbPoint.{DbPoint}
use Rattle.design_model.specs.View.{design_view}
use Rattle.point_table.specs.Verdicts.{AreShown}
use Rattle.point_table.proofs.verdicts.with_verdicts.Goals as goal

pub returns-clause-verdicts : goal.returns-clause-verdicts
returns-clause-verdicts c =
    let now = c.fill_verdicts.new.points in
    let before = c.args.points.items in
    let address = λ (p : DbPoint). p.address in
    let as_many = sym (length-map now address) ∙ ap length c.in_ok-fill_verdicts.ensures.points ∙ length-map c.as_mut_slice.result.now address ∙ ap length c.as_mut_slice.ensures.value in
    let counted : c.args.points.len ≡ length before = search rules in
    let behind = now ++ drop (length now) before in
    let whole = ap (λ n. take n behind) (counted ∙ sym as_many) ∙ take-append_seam now (drop (length now) before) in
    subst (AreShown (design_view c.args.design.now) c.args.marks.now.verdicts) (sym whole) c.in_ok-fill_verdicts.ensures.verdicts
