use Rattle.body_store.proofs.BlocksKept.{weak_kept}
use Rattle.body_store.proofs.blocks.StoreBlocks.weak_write.Goals as goal

pub returns-clause-kept : goal.returns-clause-kept
returns-clause-kept c = (weak_kept c.args.self.now c.make.new.self c.args.to.now c.args.part.now.bits c.requires.place c.fitting.ensures.kept c.make.ensures.design c.requires.own c.make.ensures.kept).0

pub returns-clause-own : goal.returns-clause-own
returns-clause-own c = (weak_kept c.args.self.now c.make.new.self c.args.to.now c.args.part.now.bits c.requires.place c.fitting.ensures.kept c.make.ensures.design c.requires.own c.make.ensures.kept).1
