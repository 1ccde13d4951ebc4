use Rattle.shown_dumps.proofs.Gap.{rest_time}
use Rattle.shown_dumps.proofs.rest_law.Goals as goal

pub returns : goal.returns
returns c codes entries more last next t rises is_last above below = rest_time codes entries more last next t rises is_last above below
