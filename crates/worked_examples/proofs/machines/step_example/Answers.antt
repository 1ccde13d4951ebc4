use Rattle.worked_examples.proofs.Machine.Followed.{step_example}
use Rattle.worked_examples.proofs.machines.step_example.Goals as goal

pub returns : goal.returns
returns c ps h = step_example ps h
