use Rattle.std.proofs.Common.{take}
use Rattle.vcd_reader.specs.Holding.{IsTimeDigits}
use Rattle.vcd_reader.proofs.time_digits.TimeDigits.of.Given as goal

abbrev pub invariant-loop-byte : goal.invariant-loop-byte
invariant-loop-byte l = IsTimeDigits l.digits (take l.byte-index l.word)
