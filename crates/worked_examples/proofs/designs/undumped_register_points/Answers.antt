use Rattle.worked_examples.proofs.Design.PipeOpen.{pipe_points_example}
use Rattle.worked_examples.proofs.designs.undumped_register_points.Goals as goal

pub returns : goal.returns
returns c = pipe_points_example
