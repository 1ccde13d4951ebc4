use Rattle.worked_examples.proofs.Design.PulseDoubt.{pulse_example}
use Rattle.worked_examples.proofs.designs.pulse_in_step.Goals as goal

pub returns : goal.returns
returns c = pulse_example
