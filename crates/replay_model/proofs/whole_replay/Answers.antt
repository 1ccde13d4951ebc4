use Rattle.replay_model.proofs.StandsLaws.{first_stands_law, rest_stands_law, step_stands_law}
use Rattle.replay_model.proofs.whole_replay.Goals as goal

pub returns-clause-first : goal.returns-clause-first
returns-clause-first c = first_stands_law

pub returns-clause-step : goal.returns-clause-step
returns-clause-step c = step_stands_law

pub returns-clause-rest : goal.returns-clause-rest
returns-clause-rest c = rest_stands_law
