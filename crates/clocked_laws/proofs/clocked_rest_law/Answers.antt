use Rattle.replay_steps.proofs.replay_model.Acted.{clocked_acted}
use Rattle.clocked_laws.proofs.Order.{clocked_adds, clocked_unmade}
use Rattle.clocked_laws.proofs.clocked_rest_law.Goals as goal

pub returns-clause-acted : goal.returns-clause-acted
returns-clause-acted c st = clocked_acted st

pub returns-clause-made : goal.returns-clause-made
returns-clause-made c st = clocked_unmade st

pub returns-clause-notes : goal.returns-clause-notes
returns-clause-notes c st = clocked_adds st
