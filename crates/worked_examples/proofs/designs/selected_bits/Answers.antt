use Rattle.worked_examples.proofs.Design.RangesRead.{ranges_example}
use Rattle.worked_examples.proofs.designs.selected_bits.Goals as goal

pub returns : goal.returns
returns c = ranges_example
