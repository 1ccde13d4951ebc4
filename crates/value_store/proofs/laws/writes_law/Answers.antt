use Rattle.value_store.proofs.Held.{set_law, set_part_law, update_law, update_part_law}
use Rattle.value_store.proofs.laws.writes_law.Goals as goal

pub returns-clause-set : goal.returns-clause-set
returns-clause-set c = set_law

pub returns-clause-set_part : goal.returns-clause-set_part
returns-clause-set_part c = set_part_law

pub returns-clause-update : goal.returns-clause-update
returns-clause-update c = update_law

pub returns-clause-update_part : goal.returns-clause-update_part
returns-clause-update_part c = update_part_law
