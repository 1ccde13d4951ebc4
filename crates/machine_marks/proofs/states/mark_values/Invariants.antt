use Rattle.cover_marks.specs.Marks.{AreMarksOf}
use Rattle.machine_marks.specs.Marked.{MarksThose, chances_of, is_state_of}
use Rattle.machine_marks.proofs.states.mark_values.Given as goal

-- the states below this one are marked
abbrev pub invariant-loop-state : goal.invariant-loop-state
invariant-loop-state l =
    AreMarksOf l.points l.marks × MarksThose l.points l.reason.signal l.reason.time (is_state_of l.number l.state) (chances_of l.values l.now.bits l.now.bits) l.fn.marks.verdicts l.marks.verdicts
