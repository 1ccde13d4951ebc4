use Rattle.std.proofs.Common.{take}
use Rattle.cover_marks.specs.Marks.{AreMarksOf}
use Rattle.step_parts.specs.replay_model.Step.{Closing}
use Rattle.step_machines.specs.Marked.{IsMoving}
use Rattle.step_machines.proofs.Marked.{MarksNumbers}
use Rattle.step_machines.proofs.machines.mark_thing.Given as goal

-- the machines so far are marked
abbrev pub invariant-loop-number : goal.invariant-loop-number
invariant-loop-number l =
    AreMarksOf l.points l.marks × ((st : Closing) → IsMoving st l.thing l.time l.listed l.store l.values → MarksNumbers st l.points (take l.number-index l.numbers) l.thing l.fn.marks.verdicts l.marks.verdicts)
