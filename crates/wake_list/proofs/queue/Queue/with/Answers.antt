use Rattle.std.proofs.Common.{arith}
use Rattle.wake_list.proofs.ChainLemmas.{chain_longer, chain_other}
use Rattle.wake_list.proofs.queue.Queue.with.Goals as goal

pub returns-clause-processes : goal.returns-clause-processes
returns-clause-processes c =
    chain_longer c.args.links.now c.args.self.last c.args.process c.args.self.first c.args.self.count c.if-self-eq0.false (c.requires.last (omega (arith, c.if-self-eq0.false))) c.requires.once c.requires.ends

pub returns-clause-others : goal.returns-clause-others
returns-clause-others c = λ p n apart. chain_other c.args.links.now c.args.self.last c.args.process p n (apart (omega (arith, c.if-self-eq0.false)))
