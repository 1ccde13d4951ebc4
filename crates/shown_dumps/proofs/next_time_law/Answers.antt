use Rattle.shown_dumps.proofs.Gap.{next_time}
use Rattle.shown_dumps.proofs.next_time_law.Goals as goal

pub returns : goal.returns
returns c codes entries more before last next rises ends = next_time codes entries more before last next rises ends
