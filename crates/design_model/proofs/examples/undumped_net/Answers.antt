use Rattle.design_model.proofs.GateClear.{gate_example}
use Rattle.design_model.proofs.examples.undumped_net.Goals as goal

pub returns : goal.returns
returns c = gate_example
