use Rattle.std.proofs.Common.{◌<◌, length, arith}
use Rattle.design_model.specs.View.{design_view}
use Rattle.design_targets.specs.Leaves.{leaf_view}
use Rattle.process_targets.proofs.Named.{on_both, one_leaf}
use Rattle.process_targets.proofs.rows.add_leaf.Goals as goal

pub returns-clause-row : goal.returns-clause-row
returns-clause-row c =
    let below : c.args.leaf.now.thing < length c.args.design.now.signals = omega (arith, c.if-leaf-len.false, c.len.ensures) in
    on_both c.add_bits.result (λ has named. one_leaf (design_view c.args.design.now) (leaf_view c.args.leaf.now) c.leaf_places-mask.result c.args.row.now.items c.add_bits.new.row.items below c.leaf_places-mask.ensures has named) c.add_bits.ensures.has c.add_bits.ensures.named
