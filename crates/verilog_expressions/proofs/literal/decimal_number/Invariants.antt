use Rattle.std.proofs.Common.{◌≡◌, ◌%◌, ◌^◌, ◌<◌, drop}
use Rattle.verilog_lexer.specs.Number.{number}
use Rattle.verilog_expressions.proofs.literal.decimal_number.Given as goal

abbrev pub invariant-loop-byte : goal.invariant-loop-byte
invariant-loop-byte l = (number 0 l.digits % 2 ^ 128 ≡ number l.value (drop l.byte-index l.digits) % 2 ^ 128) × (l.value < 2 ^ 128)
