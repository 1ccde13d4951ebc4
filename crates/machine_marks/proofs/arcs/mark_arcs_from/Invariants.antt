use Rattle.cover_marks.specs.Marks.{AreMarksOf}
use Rattle.machine_marks.specs.Marked.{MarksThose, chances_from, is_arc_from, is_possible, is_sure}
use Rattle.machine_marks.proofs.arcs.mark_arcs_from.Given as goal

-- the arcs to the states below this one are marked
abbrev pub invariant-loop-to : goal.invariant-loop-to
invariant-loop-to l =
    AreMarksOf l.points l.marks × MarksThose l.points l.reason.signal l.reason.time (is_arc_from l.number l.to l.from) (chances_from (is_sure l.left) (is_possible l.left) l.values l.after.bits) l.fn.marks.verdicts l.marks.verdicts
