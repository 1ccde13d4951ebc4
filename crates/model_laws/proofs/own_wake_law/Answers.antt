use Rattle.model_laws.proofs.Own.{own_wakes_law, wake_or_ignored_law, picking_example}
use Rattle.model_laws.proofs.own_wake_law.Goals as goal

pub returns-clause-wakes : goal.returns-clause-wakes
returns-clause-wakes c = wake_or_ignored_law

pub returns-clause-without : goal.returns-clause-without
returns-clause-without c = picking_example

pub returns-clause-known : goal.returns-clause-known
returns-clause-known c = own_wakes_law
