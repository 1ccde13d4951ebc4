use Rattle.std.proofs.Common.{get_or, None, bit_and}
use Rattle.four_state.proofs.Places.{is_set-and}
use Rattle.bit_changes.proofs.Bits.{differ_if, sure_at}
use Rattle.bit_changes.proofs.compare.differing.Goals as goal

pub returns : goal.returns
returns c =
    λ i l. rw (is_set-and (bit_and c.sure.result c.sure-2.result) c.unlike.result i, is_set-and c.sure.result c.sure-2.result i, c.sure.ensures, c.sure-2.ensures, sure_at c.args.a.now.bits i l, sure_at c.args.b.now.bits i (rw (← c.requires) l), c.unlike.ensures i l) (differ_if (get_or c.args.a.now.bits i None) (get_or c.args.b.now.bits i None))
