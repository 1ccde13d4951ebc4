use Rattle.store_knowledge.proofs.Known.{new_law}
use Rattle.store_knowledge.proofs.laws.new_store_law.Goals as goal

pub returns : goal.returns
returns c = new_law
