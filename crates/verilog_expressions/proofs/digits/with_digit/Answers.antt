use Rattle.std.proofs.Common.{arith}
use Rattle.verilog_expressions.proofs.PushedDigits.{shifted}
use Rattle.verilog_expressions.proofs.digits.with_digit.Goals as goal

pub returns : goal.returns
returns c =
    let masks = c.digit_masks-digit in
    rw (← masks.ensures.value) (shifted c.args.bits c.args.above.ones c.args.above.strange masks.result.ones masks.result.strange (omega arith) masks.ensures.ones masks.ensures.strange)
