use Rattle.design_model.specs.Machine.{machine}
use Rattle.design_model.proofs.Assigns.{machine_lawful}
use Rattle.design_model.proofs.ForcedSound.{clear_law, contradiction_law, forced_law}
use Rattle.design_model.proofs.Rounds.{value_law}
use Rattle.design_model.proofs.StepLaws.{step_laws}
use Rattle.design_model.proofs.clear_law.Goals as goal

pub returns : goal.returns
returns c =
    record {
      clear = λ d h lawful. clear_law d lawful h (step_laws (machine d) (machine_lawful d lawful) h);
      one_value = λ d h lawful. value_law d h (clear_law d lawful h (step_laws (machine d) (machine_lawful d lawful) h));
      contradiction = λ d h lawful. contradiction_law d lawful h (step_laws (machine d) (machine_lawful d lawful) h);
      forced = λ d h lawful. forced_law d lawful h (step_laws (machine d) (machine_lawful d lawful) h);
    }
