use Rattle.std.proofs.Common.{ap, length, ◌∙◌}
use Rattle.value_store.proofs.Placed.{part_shape}
use Rattle.value_store.proofs.signals.Signals.set_part.Goals as goal

pub set-requires-clause-shape : goal.set-requires-clause-shape
set-requires-clause-shape c =
    let shape = part_shape c.range.result c.args.index.now c.args.part.now c.signal.result in
    (ap (λ q. length q.bits) c.with_part-value.ensures ∙ shape.0 ∙ c.signal.ensures.shape.0, ap (λ q. q.signed) c.with_part-value.ensures ∙ shape.1 ∙ c.signal.ensures.shape.1)
