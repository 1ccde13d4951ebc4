use Rattle.known_state.proofs.Bits.{whole_value}
use Rattle.known_state.proofs.known.Known.whole.Goals as goal

pub returns : goal.returns
returns c = rw (c.kept.ensures, c.low_mask.ensures, c.width.ensures.value) (whole_value c.args.value)
