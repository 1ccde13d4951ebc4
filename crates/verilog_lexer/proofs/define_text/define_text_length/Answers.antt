use Rattle.std.proofs.Common.{◌<◌, length, ◌∙◌, arith}
use Rattle.verilog_lexer.proofs.DefineTexts.{text_length_more}
use Rattle.verilog_lexer.proofs.define_text.define_text_length.Goals as goal

pub loop-i-preserved : goal.loop-i-preserved
loop-i-preserved c =
    let within : c.loop-i.i < length c.args.text.now = omega arith in
    c.loop-i.invariant ∙ text_length_more c.args.text.now c.loop-i.i c.loop-i.state c.in-Some.next within (rw c.byte_at.ensures at c.in-Some.ensures)
