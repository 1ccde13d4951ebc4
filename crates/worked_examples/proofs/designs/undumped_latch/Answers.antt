use Rattle.worked_examples.proofs.Design.LatchDoubt.{latch_example}
use Rattle.worked_examples.proofs.designs.undumped_latch.Goals as goal

pub returns : goal.returns
returns c = latch_example
