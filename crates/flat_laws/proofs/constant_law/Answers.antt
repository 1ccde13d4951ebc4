use Rattle.flat_laws.proofs.ConstantTerms.{constant_value}
use Rattle.flat_laws.proofs.constant_law.Goals as goal

pub returns : goal.returns
returns c g e is_constant sound base d v n s = constant_value base d v g e is_constant sound n s
