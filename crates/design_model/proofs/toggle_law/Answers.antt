use Rattle.design_model.proofs.Toggles.{toggle_law as the_law}
use Rattle.design_model.proofs.toggle_law.Goals as goal

pub returns : goal.returns
returns c = the_law
