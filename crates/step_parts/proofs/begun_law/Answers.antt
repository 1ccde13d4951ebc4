use Rattle.step_parts.proofs.Begun.{begun}
use Rattle.step_parts.proofs.begun_law.Goals as goal

pub returns : goal.returns
returns c due codes ranks clocked_ranks before wakes values first left store early clocked ran listed found v marks is has have still agree list vectors =
    begun due codes ranks clocked_ranks before wakes values first left store early clocked ran listed found v marks is has have still agree list vectors
