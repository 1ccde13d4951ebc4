use Rattle.worked_examples.proofs.Design.LoopDoubt.{loop_example}
use Rattle.worked_examples.proofs.designs.own_target.Goals as goal

pub returns : goal.returns
returns c = loop_example
