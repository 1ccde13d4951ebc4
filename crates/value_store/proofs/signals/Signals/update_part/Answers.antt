use Rattle.std.proofs.Common.{ap, length, ◌∙◌}
use Rattle.value_store.proofs.Placed.{part_shape, update_shape}
use Rattle.value_store.proofs.signals.Signals.update_part.Goals as goal

pub with_update-requires : goal.with_update-requires
with_update-requires c = ap (λ q. length q.bits) c.with_part-new.ensures ∙ (part_shape c.range.result c.args.index.now c.args.part.now c.signal-old.result).0

pub set-requires-clause-shape : goal.set-requires-clause-shape
set-requires-clause-shape c =
    let part = part_shape c.range.result c.args.index.now c.args.part.now c.signal-old.result in
    let shape = update_shape c.args.certain c.args.signal c.with_part-new.result c.signal-old.result (ap (λ q. length q.bits) c.with_part-new.ensures ∙ part.0) (ap (λ q. q.signed) c.with_part-new.ensures ∙ part.1) in
    (ap (λ q. length q.bits) c.with_update.ensures ∙ shape.0 ∙ c.signal-old.ensures.shape.0, ap (λ q. q.signed) c.with_update.ensures ∙ shape.1 ∙ c.signal-old.ensures.shape.1)
