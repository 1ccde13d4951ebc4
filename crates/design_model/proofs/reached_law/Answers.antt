use Rattle.design_model.specs.Machine.{machine}
use Rattle.design_model.proofs.Assigns.{machine_lawful}
use Rattle.design_model.proofs.Reached.{reached_law}
use Rattle.design_model.proofs.StepLaws.{step_laws}
use Rattle.design_model.proofs.reached_law.Goals as goal

pub returns : goal.returns
returns c = λ d h lawful. reached_law d h lawful (step_laws (machine d) (machine_lawful d lawful) h)
