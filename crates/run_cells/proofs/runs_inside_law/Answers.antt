use Rattle.run_cells.proofs.Runs.{runs_inside}
use Rattle.run_cells.proofs.runs_inside_law.Goals as goal

pub returns : goal.returns
returns c d lawful p = runs_inside d lawful p
