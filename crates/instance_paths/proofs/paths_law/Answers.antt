use Rattle.instance_paths.proofs.Paths.{rooted}
use Rattle.instance_paths.proofs.paths_law.Goals as goal

pub returns : goal.returns
returns c ms top d answered = rooted ms top d answered
