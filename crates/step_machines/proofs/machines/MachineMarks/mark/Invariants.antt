use Rattle.std.proofs.Common.{◌||◌, not, take}
use Rattle.cover_marks.specs.Marks.{AreMarksOf}
use Rattle.step_parts.specs.replay_model.Step.{Closing}
use Rattle.step_machines.specs.Marked.{IsOver}
use Rattle.step_machines.proofs.Marked.{MarksSome}
use Rattle.step_machines.proofs.machines.MachineMarks.mark.Given as goal

-- the machines of the things so far are marked
abbrev pub invariant-loop-thing : goal.invariant-loop-thing
invariant-loop-thing l =
    AreMarksOf l.points l.marks × ((st : Closing) → IsOver st l.moves l.time l.listed l.store l.values → MarksSome st l.points (not l.listed || l.fn.self.told) (take l.thing-index l.moves) l.fn.marks.verdicts l.marks.verdicts)
