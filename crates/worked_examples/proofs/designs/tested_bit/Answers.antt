use Rattle.worked_examples.proofs.Design.HoldBitHit.{hold_bit_example}
use Rattle.worked_examples.proofs.designs.tested_bit.Goals as goal

pub returns : goal.returns
returns c = hold_bit_example
