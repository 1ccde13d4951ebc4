use Rattle.toggle_laws.proofs.Turns.{one_more}
use Rattle.toggle_laws.proofs.turn_law.Goals as goal

pub returns : goal.returns
returns c st ps signals s before middle after h last = one_more st ps signals s before middle after h last
