use Rattle.store_knowledge.proofs.Known.{own_law, read_law, view_law}
use Rattle.store_knowledge.proofs.laws.knows_law.Goals as goal

pub returns : goal.returns
returns c = record { view = view_law; read = read_law; own = own_law }
