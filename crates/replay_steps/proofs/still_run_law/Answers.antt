use Rattle.replay_steps.proofs.Settling.{run_still, all_still}
use Rattle.replay_steps.proofs.still_run_law.Goals as goal

pub returns-clause-one : goal.returns-clause-one
returns-clause-one c st ordered p w moving before = run_still st moving ordered p w before

pub returns-clause-all : goal.returns-clause-all
returns-clause-all c st none moving dump = all_still st moving none dump
