use Rattle.std.proofs.Common.{◌≡◌, drop, filter}
use Rattle.four_state.specs.Masks.{bits_of_masks}
use Rattle.verilog_grammar.specs.Literal.{bits_of_digits}
use Rattle.verilog_expressions.specs.Digits.{is_digit}
use Rattle.verilog_expressions.proofs.PushedDigits.{pushed}
use Rattle.verilog_expressions.proofs.digits.digits_masks.Given as goal

-- the digits from the place on, pushed in, give all of them
abbrev pub invariant-loop-byte : goal.invariant-loop-byte
invariant-loop-byte l = bits_of_digits l.bits 128 (filter is_digit l.digits) ≡ pushed l.bits (bits_of_masks 128 l.masks.ones l.masks.strange) (filter is_digit (drop l.byte-index l.digits))
