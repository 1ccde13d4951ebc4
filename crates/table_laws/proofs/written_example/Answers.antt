use Rattle.table_laws.proofs.Example.{flip_flop_written}
use Rattle.table_laws.proofs.written_example.Goals as goal

pub returns : goal.returns
returns c = flip_flop_written
