use Rattle.design_model.specs.Machine.{machine}
use Rattle.design_model.proofs.Assigns.{machine_lawful}
use Rattle.design_model.proofs.StepLaws.{step_laws}
use Rattle.model_laws.proofs.DecidedPoints.{decided_law}
use Rattle.model_laws.proofs.decided_law.Goals as goal

pub returns : goal.returns
returns c = λ d h lawful. decided_law d h lawful (step_laws (machine d) (machine_lawful d lawful) h)
