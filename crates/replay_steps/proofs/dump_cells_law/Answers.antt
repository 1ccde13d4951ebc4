use Rattle.replay_steps.proofs.Cells.{dump_cells}
use Rattle.replay_steps.proofs.dump_cells_law.Goals as goal

pub returns : goal.returns
returns c d dump fits = dump_cells d dump fits
