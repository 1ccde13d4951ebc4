use Rattle.std.proofs.Common.{◌≡◌, ◌%◌, ◌^◌, false, filter, slice_index, sym, ap, ◌∙◌}
use Rattle.four_state.specs.Arithmetic.{low_bits}
use Rattle.four_state.proofs.NumberLaws.{cut_by_mask, low_bits-mod}
use Rattle.verilog_lexer.specs.Number.{number}
use Rattle.verilog_lexer.specs.Based.{is_strange}
use Rattle.verilog_grammar.specs.Literal.{strange_bit}
use Rattle.verilog_expressions.specs.Digits.{is_digit}
use Rattle.verilog_expressions.proofs.Numbers.{number_of_digits}
use Rattle.verilog_expressions.proofs.PushedDigits.{is_plain}
use Rattle.verilog_expressions.proofs.literal.decimal_digits_value.Goals as goal

pub returns-in-None : goal.returns-in-None
returns-in-None c =
    let w = c.args.width in
    let digits = c.args.digits.now in
    let n = number 0 digits in
    let known : is_strange (slice_index (filter is_digit digits) 0) ≡ false =
    ap is_strange (sym c.first_digit.ensures) ∙ is_plain (is_strange c.first_digit.result) (strange_bit c.first_digit.result) c.in-None.ensures in
    rw (c.make.ensures.value, c.decimal_number.ensures, c.low_mask.ensures, known)
    (ap (λ bs. record { bits = bs; signed = c.args.signed }) (cut_by_mask w (n % 2 ^ 128) ∙ low_bits-mod w n c.requires.high ∙ ap (low_bits w) (sym (number_of_digits 0 digits))))
