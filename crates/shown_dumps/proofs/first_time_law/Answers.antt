use Rattle.shown_dumps.proofs.Gap.{first_time}
use Rattle.shown_dumps.proofs.first_time_law.Goals as goal

pub returns : goal.returns
returns c codes entries more first next rises one = first_time codes entries more first next rises one
