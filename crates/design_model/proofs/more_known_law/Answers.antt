use Rattle.design_model.proofs.MoreKnown.{more_known_law as the_law}
use Rattle.design_model.proofs.more_known_law.Goals as goal

pub returns : goal.returns
returns g c = λ d. the_law d g.K.PartialMap.has g.L.PartialMap.has
