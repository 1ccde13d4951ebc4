use Rattle.std.proofs.Common.{◌≡◌, drop}
use Rattle.verilog_lexer.specs.Number.{number}
use Rattle.verilog_lexer.proofs.number.number_within.Given as goal

abbrev pub invariant-loop-byte : goal.invariant-loop-byte
invariant-loop-byte l = number 0 l.digits ≡ number l.value (drop l.byte-index l.digits)
