use Rattle.std.proofs.Common.{◌∙◌, Some, ap, subst, sym}
use Rattle.std.proofs.lemmas.Bool.{false≢true}
use Rattle.cover_points.specs.Visits.{IsMachinePointAt}
use Rattle.machine_marks.proofs.mark.find.Goals as goal

pub returns-then-is_point-clause-only : goal.returns-then-is_point-clause-only
returns-then-is_point-clause-only c = λ k of at. ap Some (c.machine_point-number.ensures c.args.points.now k of at)

pub returns-else-is_point-clause-only : goal.returns-else-is_point-clause-only
returns-else-is_point-clause-only c = λ k of at.
    let here = subst (λ j. IsMachinePointAt c.args.points.now j c.args.point) (sym (c.machine_point-number.ensures c.args.points.now k of at)) at in
    absurd (false≢true (sym c.if-is_point.false ∙ c.is_point.ensures.1 here))
