use Rattle.std.proofs.Common.{◌≡◌, false, drop}
use Rattle.verilog_lexer.specs.Run.{through_quote}
use Rattle.verilog_lexer.proofs.run.through_quote.Given as goal

abbrev pub invariant-loop-i : goal.invariant-loop-i
invariant-loop-i l = through_quote 0 false l.text ≡ through_quote l.i l.taken (drop l.i l.text)
