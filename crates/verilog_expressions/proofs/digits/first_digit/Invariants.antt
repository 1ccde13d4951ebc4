use Rattle.std.proofs.Common.{◌≡◌, drop, filter, slice_index}
use Rattle.verilog_expressions.specs.Digits.{is_digit}
use Rattle.verilog_expressions.proofs.digits.first_digit.Given as goal

abbrev pub invariant-loop-byte : goal.invariant-loop-byte
invariant-loop-byte l = slice_index (filter is_digit l.digits) 0 ≡ slice_index (filter is_digit (drop l.byte-index l.digits)) 0
