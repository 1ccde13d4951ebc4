use Rattle.worked_examples.proofs.Design.HoldRun.{hold_example}
use Rattle.worked_examples.proofs.designs.branch_closed.Goals as goal

pub returns : goal.returns
returns c = hold_example
