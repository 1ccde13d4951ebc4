use Rattle.target_counts.proofs.Clearing.{cleared}
use Rattle.target_counts.proofs.counts.TargetCounts.clear.Goals as goal

pub returns-clause-clear : goal.returns-clause-clear
returns-clause-clear c = record { none = cleared c.args.self.now.order.items c.args.self.now.counts.items c.reset.new.self.counts.items c.requires c.reset.ensures.counts; order = c.clear.ensures.items }
