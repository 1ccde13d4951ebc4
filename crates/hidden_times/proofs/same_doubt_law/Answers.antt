use Rattle.hidden_times.proofs.Doubts.{same_doubt_law}
use Rattle.hidden_times.proofs.same_doubt_law.Goals as goal

pub returns : goal.returns
returns c = same_doubt_law
