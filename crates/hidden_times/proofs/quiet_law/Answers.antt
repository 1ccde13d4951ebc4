use Rattle.hidden_times.proofs.Quiet.{no_clean_law, no_reach_law}
use Rattle.hidden_times.proofs.Values.{same_values_law}
use Rattle.hidden_times.proofs.quiet_law.Goals as goal

pub returns-clause-values : goal.returns-clause-values
returns-clause-values c = same_values_law

pub returns-clause-clean : goal.returns-clause-clean
returns-clause-clean c = no_clean_law

pub returns-clause-reach : goal.returns-clause-reach
returns-clause-reach c = no_reach_law
