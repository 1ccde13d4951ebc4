use Rattle.std.proofs.Common.{take}
use Rattle.vcd_reader.specs.Holding.{AreDigitsOf}
use Rattle.vcd_reader.proofs.digits.Digits.of.Given as goal

abbrev pub invariant-loop-byte : goal.invariant-loop-byte
invariant-loop-byte l = AreDigitsOf l.digits (take l.byte-index l.word)
