use Rattle.shown_dumps.proofs.Split.{split_off, split_on}
use Rattle.shown_dumps.proofs.split_law.Goals as goal

pub returns-clause-on : goal.returns-clause-on
returns-clause-on c entries more on = split_on entries more on

pub returns-clause-off : goal.returns-clause-off
returns-clause-off c entries more off = split_off entries more off
