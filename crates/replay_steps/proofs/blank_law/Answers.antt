use Rattle.replay_steps.proofs.Blank.{start_blank, run_blank, all_blank}
use Rattle.replay_steps.proofs.blank_law.Goals as goal

pub returns-clause-start : goal.returns-clause-start
returns-clause-start c st none has before = start_blank st none has before

pub returns-clause-one : goal.returns-clause-one
returns-clause-one c st ordered p w drives before = run_blank st ordered p w drives before

pub returns-clause-all : goal.returns-clause-all
returns-clause-all c st none has drives before = all_blank st none has drives before
