use Rattle.worked_examples.proofs.Machine.Marked.{marks_example}
use Rattle.worked_examples.proofs.machines.marks_example.Goals as goal

pub returns : goal.returns
returns c ps h = marks_example ps h
