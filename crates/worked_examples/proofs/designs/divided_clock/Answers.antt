use Rattle.worked_examples.proofs.Design.DividedRun.{divided_example}
use Rattle.worked_examples.proofs.designs.divided_clock.Goals as goal

pub returns : goal.returns
returns c = divided_example
