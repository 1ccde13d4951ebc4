use Rattle.vcd_reader.proofs.Turns.{ordered_entries}
use Rattle.vcd_reader.proofs.laws.ordered_entries.Goals as goal

pub returns : goal.returns
returns c = ordered_entries
