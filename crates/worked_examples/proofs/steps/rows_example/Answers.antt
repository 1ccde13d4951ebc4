use Rattle.worked_examples.proofs.Step.Examples.{rows}
use Rattle.worked_examples.proofs.steps.rows_example.Goals as goal

pub returns : goal.returns
returns c = rows
