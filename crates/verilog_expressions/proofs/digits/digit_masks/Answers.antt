use Rattle.four_state.proofs.NumberLaws.{cut_by_mask}
use Rattle.verilog_grammar.specs.Literal.{digit_value, strange_bit}
use Rattle.verilog_lexer.specs.Based.{is_strange}
use Rattle.verilog_expressions.proofs.PushedDigits.{is_plain}
use Rattle.verilog_expressions.proofs.digits.digit_masks.Goals as goal

pub returns-in-None-clause-value : goal.returns-in-None-clause-value
returns-in-None-clause-value c =
    let known = is_plain (is_strange c.args.byte) (strange_bit c.args.byte) c.in-None.ensures in
    rw (c.low_mask.ensures, c.from.ensures, c.digit_value.ensures, known) (cut_by_mask c.args.bits (digit_value c.args.byte))
