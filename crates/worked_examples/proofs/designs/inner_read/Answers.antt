use Rattle.worked_examples.proofs.Design.InnerReads.{inner_example}
use Rattle.worked_examples.proofs.designs.inner_read.Goals as goal

pub returns : goal.returns
returns c = inner_example
