use Rattle.std.proofs.Common.{ap, ◌∙◌}
use Rattle.four_state.specs.Masks.{is_strange}
use Rattle.vcd_reader.proofs.DigitLemmas.{digits_more}
use Rattle.vcd_reader.proofs.digits.Digits.with_byte.Goals as goal

pub returns-clause-digits : goal.returns-clause-digits
returns-clause-digits c = λ word digits. digits_more c.args.self _ word c.args.byte digits c.count_more.ensures (λ bits few m. rw (← c.digit_bit-bit.ensures) (c.masks_with.ensures.masks bits few m)) (λ none. c.goes_on_with.ensures.first none ∙ ap is_strange c.digit_bit-bit.ensures) c.goes_on_with.ensures.later c.are_digits_with.ensures
