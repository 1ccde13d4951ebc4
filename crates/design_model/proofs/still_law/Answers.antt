use Rattle.design_model.proofs.StillClear.{still_law as the_law}
use Rattle.design_model.proofs.still_law.Goals as goal

pub returns : goal.returns
returns c = the_law
