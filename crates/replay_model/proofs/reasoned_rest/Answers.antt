use Rattle.replay_model.proofs.ReasonedLaws.{rest_forced_law, rest_known_law, rest_reasoned_law}
use Rattle.replay_model.proofs.reasoned_rest.Goals as goal

pub returns-clause-known : goal.returns-clause-known
returns-clause-known c = rest_known_law

pub returns-clause-reasoned : goal.returns-clause-reasoned
returns-clause-reasoned c = rest_reasoned_law

pub returns-clause-forced : goal.returns-clause-forced
returns-clause-forced c = rest_forced_law
