use Rattle.std.proofs.Common.{false}
use Rattle.cover_marks.specs.Marks.{AreMarksOf}
use Rattle.machine_marks.specs.Marked.{MarksThose, chances_in, is_state_of}
use Rattle.machine_marks.proofs.states.mark_comers.Given as goal

-- the states below this one are marked
abbrev pub invariant-loop-state : goal.invariant-loop-state
invariant-loop-state l =
    AreMarksOf l.points l.marks × MarksThose l.points l.reason.signal l.reason.time (is_state_of l.number l.state) (chances_in false l.values l.before.bits l.after.bits) l.fn.marks.verdicts l.marks.verdicts
