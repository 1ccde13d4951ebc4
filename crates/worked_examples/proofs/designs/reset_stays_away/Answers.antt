use Rattle.worked_examples.proofs.Design.SteadyReset.{steady_reset_example}
use Rattle.worked_examples.proofs.designs.reset_stays_away.Goals as goal

pub returns : goal.returns
returns c = steady_reset_example
