use Rattle.std.proofs.Common.{arith}
use Rattle.vcd_reader.proofs.DecimalTests.{size_of_some, size_of_none}
use Rattle.vcd_reader.proofs.size.read_size.Goals as goal

pub returns-in_err-size : goal.returns-in_err-size
returns-in_err-size c = grind (arith, size_of_none c.args.word.now c.in_err-size.ensures.none)

pub returns-else-size-eq0 : goal.returns-else-size-eq0
returns-else-size-eq0 c = grind (arith, size_of_some c.args.word.now c.in_ok-size.ensures.decimal)
