use Rattle.std.proofs.Common.{ap}
use Rattle.four_state.proofs.PartLaws.{extended_law}
use Rattle.four_state.proofs.four.Four.extend.Goals as goal

pub returns : goal.returns
returns c =
    rw (c.overlaid.ensures.value, c.fill-filled.ensures, c.low_mask.ensures, c.width.ensures.value, c.ones.ensures.value, c.strange.ensures.value, c.filler.ensures) (ap (λ bs. record { bits = bs; signed = c.args.signed }) (extended_law c.args.width _ c.args.self.now.bits c.requires.at_most))
