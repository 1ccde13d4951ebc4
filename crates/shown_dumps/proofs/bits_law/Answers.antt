use Rattle.shown_dumps.proofs.Bits.{bits_are}
use Rattle.shown_dumps.proofs.bits_law.Goals as goal

pub returns : goal.returns
returns c design vars instance entries more last next s code t value widths rises is_last from until bound said =
    bits_are design vars instance entries more last next s code t value widths rises is_last from until bound said
