use Rattle.clocked_laws.proofs.Firm.{still_made}
use Rattle.clocked_laws.proofs.Kept.{all_still, clocked_still, start_still}
use Rattle.clocked_laws.proofs.clocked_still_law.Goals as goal

pub returns-clause-clocked : goal.returns-clause-clocked
returns-clause-clocked c st runs moving x still = clocked_still st runs moving x still

pub returns-clause-start : goal.returns-clause-start
returns-clause-start c st runs clocked moving dump = start_still st runs clocked moving dump

pub returns-clause-all : goal.returns-clause-all
returns-clause-all c st runs clocked moving dump = all_still st runs clocked moving dump

pub returns-clause-made : goal.returns-clause-made
returns-clause-made c st runs clocked moving x still = still_made st runs clocked moving x still
