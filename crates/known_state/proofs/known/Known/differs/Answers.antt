use Rattle.std.proofs.Common.{not, ap, ◌∙◌}
use Rattle.known_state.proofs.Bits.{length-filled_from}
use Rattle.known_state.proofs.MaybeLaws.{match_filled}
use Rattle.known_state.proofs.known.Known.differs.Goals as goal

pub label-requires : goal.label-requires
label-requires c = rw c.filled_from.ensures (length-filled_from c.args.self.now.bits c.args.value.now.bits ∙ c.requires)

pub returns : goal.returns
returns c = rw (c.label.ensures, c.filled_from.ensures) (ap not (match_filled c.args.self.now.bits c.args.value.now.bits c.requires))
