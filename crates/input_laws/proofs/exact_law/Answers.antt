use Rattle.input_laws.proofs.Texts.{exact_law}
use Rattle.input_laws.proofs.exact_law.Goals as goal

pub returns : goal.returns
returns c = exact_law
