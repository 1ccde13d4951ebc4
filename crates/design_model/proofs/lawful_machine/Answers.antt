use Rattle.design_model.proofs.Assigns.{machine_lawful}
use Rattle.design_model.proofs.lawful_machine.Goals as goal

pub returns : goal.returns
returns c = machine_lawful
