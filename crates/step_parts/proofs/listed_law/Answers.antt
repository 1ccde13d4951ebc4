use Rattle.step_parts.proofs.Begun.{listed_are}
use Rattle.step_parts.proofs.listed_law.Goals as goal

pub returns : goal.returns
returns c due codes ranks clocked_ranks before wakes values store early listed v is found p =
    listed_are due codes ranks clocked_ranks before wakes values store early listed v is found p
