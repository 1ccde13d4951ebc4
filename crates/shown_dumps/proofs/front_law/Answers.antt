use Rattle.shown_dumps.proofs.Fronts.{front}
use Rattle.shown_dumps.proofs.front_law.Goals as goal

pub returns : goal.returns
returns c d codes entries more next t r on rises before shows = front d codes entries more next on rises r t before shows
