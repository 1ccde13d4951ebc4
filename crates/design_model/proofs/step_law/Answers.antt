use Rattle.design_model.specs.Machine.{machine}
use Rattle.design_model.proofs.Assigns.{machine_lawful}
use Rattle.design_model.proofs.Left.{left_stays_law}
use Rattle.design_model.proofs.StepFacts.{clean_step_law, event_law, facts_law, unlisted_law}
use Rattle.design_model.proofs.StepLaws.{step_laws}
use Rattle.design_model.proofs.step_law.Goals as goal

pub returns : goal.returns
returns c =
    record {
      facts = λ d h lawful. facts_law d lawful h (step_laws (machine d) (machine_lawful d lawful) h);
      events = λ d h lawful. event_law d lawful h (step_laws (machine d) (machine_lawful d lawful) h);
      clean_step = λ d h lawful. clean_step_law d lawful h (step_laws (machine d) (machine_lawful d lawful) h);
      unlisted = λ d h lawful. unlisted_law d lawful h (step_laws (machine d) (machine_lawful d lawful) h);
      left = λ d h lawful. left_stays_law d h (step_laws (machine d) (machine_lawful d lawful) h);
    }
