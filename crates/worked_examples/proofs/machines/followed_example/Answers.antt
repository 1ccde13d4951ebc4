use Rattle.worked_examples.proofs.Machine.Followed.{followed_example}
use Rattle.worked_examples.proofs.machines.followed_example.Goals as goal

pub returns : goal.returns
returns c ps h = followed_example ps h
