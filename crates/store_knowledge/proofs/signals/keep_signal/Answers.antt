use Rattle.store_knowledge.proofs.Knowing.{knows_set}
use Rattle.store_knowledge.proofs.signals.keep_signal.Goals as goal

pub returns-clause-knows : goal.returns-clause-knows
returns-clause-knows c = knows_set c.args.store.now c.set.new.self c.args.signal c.args.value.now.bits c.requires.place c.requires.width c.set.ensures.design c.set.ensures.hides c.set.ensures.around c.set.ensures.rooms c.set.ensures.updates c.set.ensures.kept
