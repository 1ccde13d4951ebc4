use Rattle.step_parts.proofs.Begun.{touched_are}
use Rattle.step_parts.proofs.touched_law.Goals as goal

pub returns : goal.returns
returns c due codes ranks clocked_ranks before wakes values store early listed v is found p i =
    touched_are due codes ranks clocked_ranks before wakes values store early listed v is found p i
