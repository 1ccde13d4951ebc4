use Rattle.tree_places.proofs.Modules.{countable_modules}
use Rattle.tree_places.proofs.countable_law.Goals as goal

pub returns : goal.returns
returns c tokens ms s few = countable_modules tokens ms s few
