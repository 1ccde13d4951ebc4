use Rattle.std.proofs.Common.{ap, length, ◌∙◌}
use Rattle.value_store.proofs.Placed.{part_shape}
use Rattle.value_store.proofs.signals.Signals.with_part.Goals as goal

pub returns-clause-shape : goal.returns-clause-shape
returns-clause-shape c =
    let shape = part_shape c.range.result c.args.index.now c.args.part.now c.read.result in
    (ap (λ q. length q.bits) c.with_part.ensures ∙ shape.0 ∙ c.read.ensures.shape.0, ap (λ q. q.signed) c.with_part.ensures ∙ shape.1 ∙ c.read.ensures.shape.1)
