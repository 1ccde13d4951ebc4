use Rattle.std.proofs.Common.{arith}
use Rattle.four_state.specs.Stored.{width_of_bits, ones_of_bits, strange_of_bits}
use Rattle.four_state.proofs.four.FourPartialEq.eq.Goals as goal

pub returns : goal.returns
returns c = grind (arith, width_of_bits, ones_of_bits, strange_of_bits)
