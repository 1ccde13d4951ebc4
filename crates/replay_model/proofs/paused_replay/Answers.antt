use Rattle.replay_model.proofs.Pausing.{new_paused_law, paused_later_law, paused_law, paused_verdict_law}
use Rattle.replay_model.proofs.paused_replay.Goals as goal

pub returns-clause-new : goal.returns-clause-new
returns-clause-new c = new_paused_law

pub returns-clause-paused : goal.returns-clause-paused
returns-clause-paused c = paused_law

pub returns-clause-later : goal.returns-clause-later
returns-clause-later c = paused_later_law

pub returns-clause-verdicts : goal.returns-clause-verdicts
returns-clause-verdicts c = paused_verdict_law
