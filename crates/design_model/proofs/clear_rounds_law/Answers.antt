use Rattle.design_model.proofs.Definite.{bound_clear_law}
use Rattle.design_model.proofs.Closed.{closed_law}
use Rattle.design_model.proofs.Rounds.{rounds_law, least_law}
use Rattle.design_model.proofs.clear_rounds_law.Goals as goal

pub returns : goal.returns
returns c = record { rounds = rounds_law; closed = λ d h lawful. closed_law d lawful h; least = least_law; bound = bound_clear_law }
