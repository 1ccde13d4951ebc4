use Rattle.vcd_reader.proofs.Growing.{dump_goes_on}
use Rattle.vcd_reader.proofs.laws.dump_goes_on.Goals as goal

pub returns : goal.returns
returns c = dump_goes_on
