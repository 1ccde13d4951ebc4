use Rattle.design_model.proofs.FiniteRounds.{decided_law, ending_law, first_rounds_law, growing_law, last_rounds_law}
use Rattle.design_model.proofs.rounds_law.Goals as goal

pub returns : goal.returns
returns c = record { decided = decided_law; grows = growing_law; ends = ending_law; first = first_rounds_law; last = last_rounds_law }
