use Rattle.value_store.proofs.Fitted.{all_fit}
use Rattle.value_store.proofs.signals.Signals.fitting.Goals as goal

pub returns-clause-kept : goal.returns-clause-kept
returns-clause-kept c = λ x l. (all_fit c.self.inside.epoch c.self.inside.slots.items c.args.self.now c.self.view_is c.self.invariant x l).0

pub returns-clause-read : goal.returns-clause-read
returns-clause-read c = λ x l. (all_fit c.self.inside.epoch c.self.inside.slots.items c.args.self.now c.self.view_is c.self.invariant x l).1
