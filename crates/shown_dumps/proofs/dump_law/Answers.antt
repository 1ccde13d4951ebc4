use Rattle.shown_dumps.proofs.Dumps.{is_dump}
use Rattle.shown_dumps.proofs.dump_law.Goals as goal

pub returns : goal.returns
returns c design vars instance entries rises = is_dump design vars instance entries rises
