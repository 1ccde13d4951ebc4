use Rattle.replay_model.proofs.SoundLaws.{contradiction_law, first_contradiction_law}
use Rattle.replay_model.proofs.true_contradictions.Goals as goal

pub returns-clause-first : goal.returns-clause-first
returns-clause-first c = first_contradiction_law

pub returns-clause-step : goal.returns-clause-step
returns-clause-step c = contradiction_law
