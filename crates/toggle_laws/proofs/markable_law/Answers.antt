use Rattle.toggle_laws.proofs.Lists.{markable}
use Rattle.toggle_laws.proofs.markable_law.Goals as goal

pub returns : goal.returns
returns c d machines ps s lawful list l = markable d machines ps lawful list s l
