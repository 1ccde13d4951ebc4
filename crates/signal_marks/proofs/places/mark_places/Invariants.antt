use Rattle.cover_marks.specs.cover_points.declared.listing.Points.{Points}
use Rattle.cover_marks.specs.Marks.{AreMarksOf}
use Rattle.signal_marks.specs.Toggled.{ListsToggles}
use Rattle.signal_marks.proofs.Marked.{MarksSoFar}
use Rattle.signal_marks.proofs.places.mark_places.Given as goal

-- the points of the bits below this place are marked
abbrev pub invariant-loop-place : goal.invariant-loop-place
invariant-loop-place l =
    ((ps : Points) → AreMarksOf ps l.fn.marks → AreMarksOf ps l.marks) × ((ps : Points) → AreMarksOf ps l.fn.marks → ListsToggles ps l.shape l.toggling → MarksSoFar ps l.shape l.toggling l.mask l.place l.fn.marks.verdicts l.marks.verdicts)
