use Rattle.body_store.proofs.Lawful.{premises}
use Rattle.body_store.proofs.laws.premises_law.Goals as goal

pub returns : goal.returns
returns c = premises
