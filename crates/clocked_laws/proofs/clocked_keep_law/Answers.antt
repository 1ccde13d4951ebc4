use Rattle.clocked_laws.proofs.Kept.{clocked_kept}
use Rattle.clocked_laws.proofs.clocked_keep_law.Goals as goal

pub returns : goal.returns
returns c st x keeps = clocked_kept st x keeps
