use Rattle.std.proofs.Common.{ap, length, sym, ◌∙◌}
use Rattle.value_store.proofs.Placed.{update_shape}
use Rattle.value_store.proofs.signals.Signals.update.Goals as goal

pub set-requires-clause-shape : goal.set-requires-clause-shape
set-requires-clause-shape c =
    let shape = update_shape c.args.certain c.args.signal c.args.value.now c.signal.result (c.requires.shape.0 ∙ sym c.signal.ensures.shape.0) (c.requires.shape.1 ∙ sym c.signal.ensures.shape.1) in
    (ap (λ q. length q.bits) c.with_update-kept.ensures ∙ shape.0 ∙ c.signal.ensures.shape.0, ap (λ q. q.signed) c.with_update-kept.ensures ∙ shape.1 ∙ c.signal.ensures.shape.1)
