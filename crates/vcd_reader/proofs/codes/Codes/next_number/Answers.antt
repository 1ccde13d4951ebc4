use Rattle.std.proofs.Common.{ap, length, arith}
use Rattle.vcd_reader.proofs.CodeLemmas.{length-codes_in}
use Rattle.vcd_reader.proofs.codes.Codes.next_number.Goals as goal

pub overflow_cast-result : goal.overflow_cast-result
overflow_cast-result c = omega (arith, c.requires, c.len.ensures, ap length c.self.view_is, length-codes_in c.self.inside.texts.items c.self.inside.codes.items c.self.invariant.0)

pub returns : goal.returns
returns c = omega (arith, c.len.ensures, ap length c.self.view_is, length-codes_in c.self.inside.texts.items c.self.inside.codes.items c.self.invariant.0)
