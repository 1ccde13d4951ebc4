use Rattle.worked_examples.proofs.Design.GapForced.{gap_example}
use Rattle.worked_examples.proofs.designs.dump_with_gap.Goals as goal

pub returns : goal.returns
returns c = gap_example
