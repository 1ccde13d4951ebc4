use Rattle.std.proofs.Common.{length, refl, ap}
use Rattle.four_state.proofs.PartLaws.{overlaid_inside, overlaid_masks}
use Rattle.four_state.proofs.four.Four.overlaid.Goals as goal

pub make-requires-clause-ones_inside : goal.make-requires-clause-ones_inside
make-requires-clause-ones_inside c =
    rw (c.width-2.ensures.value, c.low_mask.ensures, c.width.ensures.value) (overlaid_inside (length c.args.self.now.bits) c.args.inside c.width.ensures.within.1 c.ones.result c.args.ones c.ones.ensures.inside)

pub make-requires-clause-strange_inside : goal.make-requires-clause-strange_inside
make-requires-clause-strange_inside c =
    rw (c.width-2.ensures.value, c.low_mask.ensures, c.width.ensures.value) (overlaid_inside (length c.args.self.now.bits) c.args.inside c.width.ensures.within.1 c.strange.result c.args.strange c.strange.ensures.inside)

pub returns-clause-value : goal.returns-clause-value
returns-clause-value c =
    rw (c.make.ensures.value, c.ones.ensures.value, c.strange.ensures.value, c.low_mask.ensures, c.width-2.ensures.value, c.width.ensures.value, c.is_signed.ensures) (ap (λ bs. record { bits = bs; signed = c.args.self.now.signed }) (overlaid_masks (length c.args.self.now.bits) c.args.inside c.width.ensures.within.1 c.args.ones c.args.strange c.args.self.now.bits refl))
