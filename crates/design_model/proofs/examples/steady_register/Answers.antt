use Rattle.design_model.proofs.FlipFlopExample.{steady_example}
use Rattle.design_model.proofs.examples.steady_register.Goals as goal

pub returns : goal.returns
returns c = steady_example
