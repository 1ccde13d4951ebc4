use Rattle.replay_model.proofs.FirstForced.{first_forced_law}
use Rattle.replay_model.proofs.FirstKnown.{first_known_law}
use Rattle.replay_model.proofs.reasoned_first.Goals as goal

pub returns-clause-known : goal.returns-clause-known
returns-clause-known c = first_known_law

pub returns-clause-forced : goal.returns-clause-forced
returns-clause-forced c = first_forced_law
