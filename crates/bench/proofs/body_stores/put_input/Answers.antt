use Rattle.design_model.specs.View.{design_view}
use Rattle.bench.proofs.Idle.{still_idle}
use Rattle.bench.proofs.body_stores.put_input.Goals as goal

pub returns-in-Ok : goal.returns-in-Ok
returns-in-Ok c =
    let x = c.args.store.now in
    let e = c.set.ensures in
    still_idle (design_view c.args.design.now) x c.set.new.self _ c.requires.idle e.design e.around e.rooms e.log e.hides e.updates c.own_law.ensures.kept (e.kept _ (c.holding.ensures.own c.requires.idle.own))
