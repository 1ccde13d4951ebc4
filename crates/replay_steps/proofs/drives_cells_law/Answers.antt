use Rattle.replay_steps.proofs.Cells.{drives_cells}
use Rattle.replay_steps.proofs.drives_cells_law.Goals as goal

pub returns : goal.returns
returns c d p signals = drives_cells d p signals
