use Rattle.std.proofs.Common.{◌∙◌, ap, not}
use Rattle.bit_changes.proofs.Bits.{lacking, sure_at}
use Rattle.bit_changes.proofs.toggles.unsure.Goals as goal

pub returns : goal.returns
returns c =
    λ i l. rw (c.low_mask.ensures, c.width.ensures.value) (lacking _ c.sure.result i c.width.ensures.at_most c.sure.type_inv l ∙ ap not (rw c.sure.ensures (sure_at c.args.value.now.bits i l)))
