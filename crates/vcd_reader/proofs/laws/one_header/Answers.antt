use Rattle.vcd_reader.proofs.OneHeader.{one_header}
use Rattle.vcd_reader.proofs.laws.one_header.Goals as goal

pub returns : goal.returns
returns c = one_header
