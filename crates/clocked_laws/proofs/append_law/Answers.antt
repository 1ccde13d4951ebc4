use Rattle.clocked_laws.proofs.Order.{clean_appended, weak_appended}
use Rattle.clocked_laws.proofs.append_law.Goals as goal

pub returns-clause-clean : goal.returns-clause-clean
returns-clause-clean c st ps qs w = clean_appended st ps qs w

pub returns-clause-weak : goal.returns-clause-weak
returns-clause-weak c st ps qs w = weak_appended st ps qs w
