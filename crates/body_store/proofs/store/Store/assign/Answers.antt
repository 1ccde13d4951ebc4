use Rattle.std.proofs.Common.{ap, length, ◌∙◌}
use Rattle.body_store.proofs.Holding.{under_same}
use Rattle.body_store.proofs.Rooms.{same_room}
use Rattle.body_store.proofs.store.Store.assign.Goals as goal

pub returns-clause-under : goal.returns-clause-under
returns-clause-under c =
    let x = c.args.self.now in
    under_same (length x.design.now.signals) x.signals c.assign.new.signals x.veils x.memories.items x.memories.items x.log.room c.assign.new.self.room c.assign.ensures.under (ap (λ l. l.room) c.assign.ensures.log ∙ same_room x.log x.signals c.args.signal)
