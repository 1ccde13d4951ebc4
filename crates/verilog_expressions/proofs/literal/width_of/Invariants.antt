use Rattle.std.proofs.Common.{◌≡◌, drop}
use Rattle.verilog_lexer.specs.Number.{number}
use Rattle.verilog_expressions.specs.Digits.{capped}
use Rattle.verilog_expressions.proofs.literal.width_of.Given as goal

abbrev pub invariant-loop-byte : goal.invariant-loop-byte
invariant-loop-byte l = capped (number 0 l.size) ≡ capped (number l.width (drop l.byte-index l.size))
