use Rattle.std.proofs.Common.{◌-◌}
use Rattle.dump_score.proofs.Opening.{ReadsHeader}
use Rattle.dump_score.proofs.header.read_header.Given as goal

abbrev pub invariant-loop-at : goal.invariant-loop-at
invariant-loop-at g l = ReadsHeader l.header l.at (g.H.Host.outside l.fn.host) (g.H.Host.outside l.host)

abbrev pub decreases-loop-at : goal.decreases-loop-at
decreases-loop-at g l = 67108865 - l.at
