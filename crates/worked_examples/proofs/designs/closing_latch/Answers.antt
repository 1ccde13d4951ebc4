use Rattle.worked_examples.proofs.Design.ClosingOpen.{closing_example}
use Rattle.worked_examples.proofs.designs.closing_latch.Goals as goal

pub returns : goal.returns
returns c = closing_example
