use Rattle.step_runs.proofs.Changed.{steps_are}
use Rattle.step_runs.proofs.laws.steps_law.Goals as goal

pub returns : goal.returns
returns c d h dump tables sets t a flags codes values w watched wakes changed due tabled are same rows known listed p settles = steps_are d h dump tables sets t a flags codes values w watched wakes changed due tabled are same rows known listed p settles
