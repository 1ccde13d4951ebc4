use Rattle.replay_follows.proofs.Steps.{new_pauses, paused_ends, pauses_later, pauses_now}
use Rattle.replay_follows.proofs.pause_laws.Goals as goal

pub returns-clause-new : goal.returns-clause-new
returns-clause-new c = new_pauses

pub returns-clause-now : goal.returns-clause-now
returns-clause-now c = pauses_now

pub returns-clause-later : goal.returns-clause-later
returns-clause-later c = pauses_later

pub returns-clause-verdicts : goal.returns-clause-verdicts
returns-clause-verdicts c = paused_ends
