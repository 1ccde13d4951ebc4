use Rattle.std.proofs.Common.{◌≡◌, ◌+◌, ◌-◌, ◌^◌, ◌<◌, false, drop, length}
use Rattle.verilog_lexer.specs.Spot.{after_all}
use Rattle.verilog_lexer.proofs.spot.Spot.after_all.Given as goal

abbrev pub invariant-loop-byte : goal.invariant-loop-byte
invariant-loop-byte l = record {
  place : after_all l.fn.self l.bytes ≡ after_all (record { place = l.place; inside = false }) (drop l.byte-index l.bytes);
  line : l.place.line + (length l.bytes - l.byte-index) < 2 ^ 32;
  column : l.place.column + (length l.bytes - l.byte-index) < 2 ^ 32;
}
