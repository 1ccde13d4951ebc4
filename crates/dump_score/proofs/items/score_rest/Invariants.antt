use Rattle.std.proofs.Common.{◌-◌}
use Rattle.dump_score.proofs.Opening.{ReadsBody}
use Rattle.dump_score.proofs.items.score_rest.Given as goal

abbrev pub invariant-loop-at : goal.invariant-loop-at
invariant-loop-at g l = ReadsBody l.fn.body l.body l.fn.replay l.replay l.fn.at l.at (g.H.Host.outside l.fn.host) (g.H.Host.outside l.host)

abbrev pub decreases-loop-at : goal.decreases-loop-at
decreases-loop-at g l = 1099511627777 - l.at
