use Rattle.clocked_laws.proofs.Names.{numbers_law}
use Rattle.clocked_laws.proofs.numbers_law.Goals as goal

pub returns : goal.returns
returns c = numbers_law
