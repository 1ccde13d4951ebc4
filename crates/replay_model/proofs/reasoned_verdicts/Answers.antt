use Rattle.replay_model.proofs.ReasonedLaws.{reasoned_verdict_law}
use Rattle.replay_model.proofs.reasoned_verdicts.Goals as goal

pub returns : goal.returns
returns c = reasoned_verdict_law
