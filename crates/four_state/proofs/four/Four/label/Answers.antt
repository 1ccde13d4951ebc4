use Rattle.std.proofs.Common.{arith}
use Rattle.four_state.proofs.MatchLaws.{label_law}
use Rattle.four_state.proofs.four.Four.label.Goals as goal

pub returns : goal.returns
returns c =
    let any_below = c.any_mask.type_inv in
    rw (c.ones.ensures.value, c.ones-2.ensures.value, c.strange.ensures.value, c.strange-2.ensures.value) (label_law c.args.a.now.bits c.args.b.now.bits c.requires c.args.kind c.any_mask.result c.ones.ensures.within.1 (omega arith) c.any_mask.ensures)
