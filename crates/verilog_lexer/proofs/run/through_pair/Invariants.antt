use Rattle.std.proofs.Common.{◌≡◌, drop}
use Rattle.verilog_lexer.specs.Run.{through_pair}
use Rattle.verilog_lexer.proofs.run.through_pair.Given as goal

abbrev pub invariant-loop-i : goal.invariant-loop-i
invariant-loop-i l = through_pair l.first l.second 0 l.text ≡ through_pair l.first l.second l.i (drop l.i l.text)
