use Rattle.hidden_times.proofs.Clear.{same_clear_law, shrink_law}
use Rattle.hidden_times.proofs.same_clear_law.Goals as goal

pub returns-clause-shrink : goal.returns-clause-shrink
returns-clause-shrink c = shrink_law

pub returns-clause-same : goal.returns-clause-same
returns-clause-same c = same_clear_law
