use Rattle.design_model.proofs.Definite.{bound_point_law, definiteness_law}
use Rattle.design_model.proofs.definiteness_law.Goals as goal

pub returns-clause-blocks : goal.returns-clause-blocks
returns-clause-blocks c = definiteness_law

pub returns-clause-signals : goal.returns-clause-signals
returns-clause-signals c = bound_point_law
