use Rattle.value_store.proofs.Slots.{kept_written}
use Rattle.value_store.proofs.signals.Signals.set.Goals as goal

pub returns : goal.returns
returns c =
    kept_written c.self.inside.epoch c.self.inside.slots.items c.args.signal c.index_mut-slot.result.now c.args.self.now c.index_mut-slot.ensures.value c.self.view_is c.args.value
