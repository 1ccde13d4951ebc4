use Rattle.run_cells.proofs.Runs.{queues_inside}
use Rattle.run_cells.proofs.queue_inside_law.Goals as goal

pub returns : goal.returns
returns c d lawful p x how = queues_inside d lawful p x how
