use Rattle.worked_examples.proofs.Design.ArmsOpen.{arms_example}
use Rattle.worked_examples.proofs.designs.case_arms.Goals as goal

pub returns : goal.returns
returns c = arms_example
