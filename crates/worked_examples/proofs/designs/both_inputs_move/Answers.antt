use Rattle.worked_examples.proofs.Design.ProductOpen.{product_example}
use Rattle.worked_examples.proofs.designs.both_inputs_move.Goals as goal

pub returns : goal.returns
returns c = product_example
