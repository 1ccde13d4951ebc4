use Rattle.std.proofs.Common.{true, ap, ◌%◌, ◌^◌, ◌∙◌, arith}
use Rattle.four_state.proofs.NumberLaws.{cut_by_mask, low_bits-mod}
use Rattle.verilog_lexer.specs.Number.{number}
use Rattle.verilog_expressions.proofs.literal.decimal_value.Goals as goal

pub returns : goal.returns
returns c =
    let n = number 0 c.args.text.now in
    rw (c.make.ensures.value, c.decimal_number.ensures) (ap (λ bs. record { bits = bs; signed = true }) (cut_by_mask 32 (n % 2 ^ 128) ∙ low_bits-mod 32 n (omega arith)))
