use Rattle.mark_laws.proofs.Marked.{other_kept}
use Rattle.mark_laws.proofs.no_point_law.Goals as goal

pub returns : goal.returns
returns c d ps ns n vs h none = other_kept d ps ns n vs h none
