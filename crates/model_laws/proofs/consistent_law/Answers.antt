use Rattle.model_laws.proofs.Consistent.{consistent_law, one_value_law, own_unclear_law}
use Rattle.model_laws.proofs.consistent_law.Goals as goal

pub returns-clause-consistent : goal.returns-clause-consistent
returns-clause-consistent c = λ d h lawful. consistent_law d lawful h

pub returns-clause-one_value : goal.returns-clause-one_value
returns-clause-one_value c = λ d h lawful. one_value_law d lawful h

pub returns-clause-own_unclear : goal.returns-clause-own_unclear
returns-clause-own_unclear c = own_unclear_law
