use Rattle.std.proofs.Common.{◌≡◌, drop}
use Rattle.verilog_lexer.specs.DefineText.{define_text_length, text_length}
use Rattle.verilog_lexer.proofs.define_text.define_text_length.Given as goal

abbrev pub invariant-loop-i : goal.invariant-loop-i
invariant-loop-i l = define_text_length l.text ≡ text_length l.i l.state (drop l.i l.text)
