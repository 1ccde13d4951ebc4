use Rattle.worked_examples.proofs.Design.RaceDoubt.{race_example}
use Rattle.worked_examples.proofs.designs.blocking_race.Goals as goal

pub returns : goal.returns
returns c = race_example
