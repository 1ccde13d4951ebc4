use Rattle.worked_examples.proofs.Machine.Followed.{told_example}
use Rattle.worked_examples.proofs.machines.told_example.Goals as goal

pub returns : goal.returns
returns c = told_example
