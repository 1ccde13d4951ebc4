use Rattle.shown_dumps.proofs.Order.{are_stretches}
use Rattle.shown_dumps.proofs.Times.{times_are}
use Rattle.shown_dumps.proofs.times_law.Goals as goal

pub returns-clause-times : goal.returns-clause-times
returns-clause-times c entries = times_are entries

pub returns-clause-order : goal.returns-clause-order
returns-clause-order c entries rises = are_stretches entries rises
