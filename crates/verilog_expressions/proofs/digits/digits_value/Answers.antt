use Rattle.std.proofs.Common.{ap, filter, ◌∙◌}
use Rattle.four_state.specs.declared.bit.Bit.TheVariants.{Zero}
use Rattle.four_state.specs.Vector.{fit}
use Rattle.verilog_expressions.specs.Digits.{is_digit}
use Rattle.verilog_expressions.proofs.PushedDigits.{cut_masks, cut_digits}
use Rattle.verilog_expressions.proofs.digits.digits_value.Goals as goal

pub returns : goal.returns
returns c =
    let w = c.args.width in
    let masks = c.digits_masks-ones in
    rw (c.make.ensures.value, c.low_mask-inside.ensures)
    (ap (λ bs. record { bits = bs; signed = c.args.signed }) (cut_masks w masks.result.ones masks.result.strange c.requires.high ∙ ap (fit w Zero) masks.ensures ∙ cut_digits c.args.bits w (filter is_digit c.args.digits.now) c.requires.high))
