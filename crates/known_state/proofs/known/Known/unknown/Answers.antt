use Rattle.known_state.proofs.Bits.{unknown_value}
use Rattle.known_state.proofs.known.Known.unknown.Goals as goal

pub returns : goal.returns
returns c = rw (c.kept.ensures, c.fill.ensures) (unknown_value c.args.width c.args.signed c.args.blame c.requires.at_least)
