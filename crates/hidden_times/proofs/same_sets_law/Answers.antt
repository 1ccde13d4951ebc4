use Rattle.hidden_times.proofs.Sets.{same_round_law, same_sets_law}
use Rattle.hidden_times.proofs.same_sets_law.Goals as goal

pub returns-clause-rounds : goal.returns-clause-rounds
returns-clause-rounds c = same_round_law

pub returns-clause-sets : goal.returns-clause-sets
returns-clause-sets c = same_sets_law
