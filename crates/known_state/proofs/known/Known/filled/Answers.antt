use Rattle.std.proofs.Common.{ap}
use Rattle.known_state.proofs.Bits.{filled_from-replicate}
use Rattle.known_state.proofs.known.Known.filled.Goals as goal

pub returns : goal.returns
returns c =
    rw (c.filled_from.ensures, c.fill.ensures, c.width.ensures.value) (ap (λ bs. record { bits = bs; signed = c.args.self.now.signed }) (filled_from-replicate c.args.bit c.args.self.now.bits))
