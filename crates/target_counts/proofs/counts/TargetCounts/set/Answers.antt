use Rattle.target_counts.proofs.Replacing.{within_set}
use Rattle.target_counts.proofs.counts.TargetCounts.set.Goals as goal

pub invariant_of-self : goal.invariant_of-self
invariant_of-self c = record { within = within_set c.args.self.now.order.items c.args.self.now.counts.items c.args.place c.args.count c.args.self.now.within }
