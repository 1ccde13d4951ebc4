use Rattle.shown_dumps.proofs.Ongoing.{first_stays}
use Rattle.shown_dumps.proofs.first_stays_law.Goals as goal

pub returns : goal.returns
returns c entries more code two = first_stays entries more code two
