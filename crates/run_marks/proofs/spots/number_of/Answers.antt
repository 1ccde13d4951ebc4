use Rattle.std.proofs.Common.{subst, sym}
use Rattle.cover_points.specs.Visits.{IsVisitOf}
use Rattle.run_marks.proofs.spots.number_of.Goals as goal

pub returns : goal.returns
returns c ps k marks at = c.point.ensures ps k marks (subst (IsVisitOf ps k) (sym c.visit-visit.ensures) at)
