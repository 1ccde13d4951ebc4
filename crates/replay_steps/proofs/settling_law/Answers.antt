use Rattle.replay_steps.proofs.Settling.{clocked_none, starts_settled}
use Rattle.replay_steps.proofs.settling_law.Goals as goal

pub returns-clause-clocked : goal.returns-clause-clocked
returns-clause-clocked c st none = clocked_none st none

pub returns-clause-kept : goal.returns-clause-kept
returns-clause-kept c st x none = (starts_settled st x none).0

pub returns-clause-made : goal.returns-clause-made
returns-clause-made c st x none = (starts_settled st x none).1
