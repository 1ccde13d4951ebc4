use Rattle.definite_tables.proofs.Definite.{definite_blocks, definite_signals}
use Rattle.definite_tables.proofs.definite_law.Goals as goal

pub returns-clause-blocks : goal.returns-clause-blocks
returns-clause-blocks c = definite_blocks

pub returns-clause-signals : goal.returns-clause-signals
returns-clause-signals c = definite_signals
