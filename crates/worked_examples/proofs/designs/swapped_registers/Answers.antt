use Rattle.worked_examples.proofs.Design.SwapForced.{swap_example}
use Rattle.worked_examples.proofs.designs.swapped_registers.Goals as goal

pub returns : goal.returns
returns c = swap_example
