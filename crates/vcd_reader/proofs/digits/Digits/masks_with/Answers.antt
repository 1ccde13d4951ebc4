use Rattle.std.proofs.Common.{arith}
use Rattle.vcd_reader.proofs.MaskLemmas.{below_127, inside_wider}
use Rattle.vcd_reader.proofs.digits.Digits.masks_with.Goals as goal

pub with_bit-requires-clause-ones : goal.with_bit-requires-clause-ones
with_bit-requires-clause-ones c = below_127 _ _ c.args.self.now.ones_inside (omega arith)

pub with_bit-requires-clause-strange : goal.with_bit-requires-clause-strange
with_bit-requires-clause-strange c = below_127 _ _ c.args.self.now.strange_inside (omega arith)

pub returns-else-self-lt-WIDEST-clause-ones : goal.returns-else-self-lt-WIDEST-clause-ones
returns-else-self-lt-WIDEST-clause-ones c = inside_wider _ _ _ c.args.self.now.ones_inside (omega (arith, c.args.self.now.few))

pub returns-else-self-lt-WIDEST-clause-strange : goal.returns-else-self-lt-WIDEST-clause-strange
returns-else-self-lt-WIDEST-clause-strange c = inside_wider _ _ _ c.args.self.now.strange_inside (omega (arith, c.args.self.now.few))
