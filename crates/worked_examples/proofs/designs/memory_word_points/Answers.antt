use Rattle.worked_examples.proofs.Design.RamOpen.{ram_points_example}
use Rattle.worked_examples.proofs.designs.memory_word_points.Goals as goal

pub returns : goal.returns
returns c = ram_points_example
