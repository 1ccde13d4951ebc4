use Rattle.clocked_laws.proofs.Kept.{untargeted}
use Rattle.clocked_laws.proofs.untargeted_law.Goals as goal

pub returns : goal.returns
returns c d run p x runs away = untargeted d run p x runs away
