use Rattle.std.proofs.Common.{◌≡◌, ◌+◌, ◌≤◌, length}
use Rattle.verilog_lexer.specs.Stand.{stand_of, outcome, work}
use Rattle.verilog_lexer.proofs.reader.Reader.read_all.Given as goal

abbrev pub invariant-loop-goes_on : goal.invariant-loop-goes_on
invariant-loop-goes_on g l = record {
  same : outcome l.fn.self.sources.now (stand_of l.fn.self) ≡ outcome l.fn.self.sources.now (stand_of l.self);
  sources : l.self.sources.now ≡ l.fn.self.sources.now;
  depth : length l.self.waiting.items ≤ 64;
  turns : l.steps + work (stand_of l.self) ≤ l.fn.steps + work (stand_of l.fn.self);
}

abbrev pub decreases-loop-goes_on : goal.decreases-loop-goes_on
decreases-loop-goes_on g l = work (stand_of l.self)
