use Rattle.replay_steps.proofs.Settling.{start_still}
use Rattle.replay_steps.proofs.still_start_law.Goals as goal

pub returns : goal.returns
returns c st none moving dump = start_still st moving none dump
