use Rattle.std.proofs.Common.{sym}
use Rattle.known_state.proofs.Masked.{are_sure-sure_bits}
use Rattle.known_state.proofs.known.Known.is_whole.Goals as goal

pub returns : goal.returns
returns c =
    rw (← c.self.view_is, c.low_mask.ensures, c.width.ensures.value) (sym (are_sure-sure_bits c.self.inside.value.bits c.self.inside.sure c.self.invariant.inside))
