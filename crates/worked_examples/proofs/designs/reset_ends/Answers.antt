use Rattle.worked_examples.proofs.Design.ResetDoubt.{release_example}
use Rattle.worked_examples.proofs.designs.reset_ends.Goals as goal

pub returns : goal.returns
returns c = release_example
