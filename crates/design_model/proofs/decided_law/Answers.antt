use Rattle.design_model.specs.Machine.{machine}
use Rattle.design_model.proofs.Assigns.{machine_lawful}
use Rattle.design_model.proofs.DecidedClocked.{clocked_decided_law}
use Rattle.design_model.proofs.DecidedSettled.{settled_decided_law}
use Rattle.design_model.proofs.DecidedSignals.{signal_decided_law}
use Rattle.design_model.proofs.StepLaws.{step_laws}
use Rattle.design_model.proofs.decided_law.Goals as goal

pub returns-clause-signals : goal.returns-clause-signals
returns-clause-signals c = λ d h lawful. signal_decided_law d h lawful (step_laws (machine d) (machine_lawful d lawful) h)

pub returns-clause-clocked : goal.returns-clause-clocked
returns-clause-clocked c = λ d h lawful. clocked_decided_law d h lawful (step_laws (machine d) (machine_lawful d lawful) h)

pub returns-clause-settled : goal.returns-clause-settled
returns-clause-settled c = λ d h lawful. settled_decided_law d h lawful (step_laws (machine d) (machine_lawful d lawful) h)
