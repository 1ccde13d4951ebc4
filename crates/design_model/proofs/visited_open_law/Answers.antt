use Rattle.design_model.proofs.VisitedOpen.{visited_open_law as the_law}
use Rattle.design_model.proofs.visited_open_law.Goals as goal

pub returns : goal.returns
returns g c = λ d. the_law d g.K.PartialMap.has
