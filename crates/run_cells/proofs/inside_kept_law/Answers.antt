use Rattle.run_cells.proofs.Writes.{inside_kept}
use Rattle.run_cells.proofs.inside_kept_law.Goals as goal

pub returns : goal.returns
returns c d ws k x inside outside = inside_kept d ws k x inside outside
