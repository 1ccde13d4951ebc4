use Rattle.std.proofs.Common.{length}
use Rattle.cover_marks.specs.Marks.{AreMarksOf}
use Rattle.machine_marks.specs.Marked.{MarksThose, chances_of, is_arc_below}
use Rattle.machine_marks.proofs.arcs.mark_arcs.Given as goal

-- the arcs that leave the states below this one are marked
abbrev pub invariant-loop-from : goal.invariant-loop-from
invariant-loop-from l =
    AreMarksOf l.points l.marks × MarksThose l.points l.reason.signal l.reason.time (is_arc_below l.number (length l.values) l.from) (chances_of l.values l.before.bits l.after.bits) l.fn.marks.verdicts l.marks.verdicts
