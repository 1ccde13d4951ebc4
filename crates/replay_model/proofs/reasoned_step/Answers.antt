use Rattle.replay_model.proofs.ReasonedLaws.{step_known_law, step_reasoned_law}
use Rattle.replay_model.proofs.StepForced.{step_forced_law}
use Rattle.replay_model.proofs.reasoned_step.Goals as goal

pub returns-clause-known : goal.returns-clause-known
returns-clause-known c = step_known_law

pub returns-clause-reasoned : goal.returns-clause-reasoned
returns-clause-reasoned c = step_reasoned_law

pub returns-clause-forced : goal.returns-clause-forced
returns-clause-forced c = step_forced_law
