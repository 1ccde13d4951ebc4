use Rattle.std.proofs.Common.{bit_and, get_or, None, lt_of_le_of_lt}
use Rattle.std.proofs.lemmas.Nat.{and_le_l}
use Rattle.four_state.proofs.Places.{is_set-and, is_set-or}
use Rattle.bit_changes.proofs.Bits.{lacking, sure_at, unsteady_if}
use Rattle.bit_changes.proofs.compare.unsteady.Goals as goal

pub returns : goal.returns
returns c =
    λ i l. rw (c.low_mask.ensures, c.width.ensures.value, is_set-or) (let e = lacking _ (bit_and c.sure.result c.sure-2.result) i c.width.ensures.at_most (lt_of_le_of_lt (and_le_l c.sure.result c.sure-2.result) c.sure.type_inv) l in
    rw (e, is_set-and, c.unlike.ensures i l, c.sure.ensures, c.sure-2.ensures, sure_at c.args.a.now.bits i l, sure_at c.args.b.now.bits i (rw (← c.requires) l)) (unsteady_if (get_or c.args.a.now.bits i None) (get_or c.args.b.now.bits i None)))
