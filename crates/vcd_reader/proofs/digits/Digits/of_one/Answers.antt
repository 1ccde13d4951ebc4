use Rattle.std.proofs.Common.{[]}
use Rattle.vcd_reader.proofs.digits.Digits.of_one.Goals as goal

pub returns-clause-digits : goal.returns-clause-digits
returns-clause-digits c = c.with_byte.ensures.digits [] c.new.ensures
