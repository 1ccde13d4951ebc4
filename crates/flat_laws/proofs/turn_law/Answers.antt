use Rattle.flat_laws.proofs.TurnNames.{turn_names}
use Rattle.flat_laws.proofs.turn_law.Goals as goal

pub returns : goal.returns
returns c g x y v = turn_names g x y v
