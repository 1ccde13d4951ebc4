use Rattle.worked_examples.proofs.Design.ReverseOpen.{reverse_example}
use Rattle.worked_examples.proofs.designs.reversed_bits.Goals as goal

pub returns : goal.returns
returns c = reverse_example
