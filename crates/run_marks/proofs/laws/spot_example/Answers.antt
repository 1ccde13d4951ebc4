use Rattle.run_marks.proofs.Example.{spots}
use Rattle.run_marks.proofs.laws.spot_example.Goals as goal

pub returns : goal.returns
returns c = spots
