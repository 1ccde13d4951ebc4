use Rattle.clocked_laws.proofs.Moved.{moves_are}
use Rattle.clocked_laws.proofs.clocked_moves_law.Goals as goal

pub returns : goal.returns
returns c d h dump run tables sets t a lawful tabled are s moves = moves_are d h dump run tables sets t a lawful tabled are s moves
