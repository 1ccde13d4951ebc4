use Rattle.design_model.proofs.FlipFlopExample.{falling_example}
use Rattle.design_model.proofs.examples.moving_input.Goals as goal

pub returns : goal.returns
returns c = falling_example
