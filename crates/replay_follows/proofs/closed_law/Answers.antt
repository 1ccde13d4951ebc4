use Rattle.replay_follows.proofs.Steps.{closes}
use Rattle.replay_follows.proofs.closed_law.Goals as goal

pub returns : goal.returns
returns c f t a x y early follows given window sets of writers none values rest = closes f t a x y early follows given window sets of writers none values rest
