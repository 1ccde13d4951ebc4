use Rattle.std.proofs.Common.{sym}
use Rattle.known_state.specs.Stored.{mask_of_bits}
use Rattle.known_state.proofs.known.Known.sure.Goals as goal

pub returns : goal.returns
returns c =
    rw (← c.self.view_is) (sym (mask_of_bits c.self.inside.value.bits c.self.inside.sure c.self.invariant.inside))
