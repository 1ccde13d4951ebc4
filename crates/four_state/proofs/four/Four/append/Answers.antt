use Rattle.std.proofs.Common.{false, ap}
use Rattle.four_state.proofs.PartLaws.{joined_inside, appended_law}
use Rattle.four_state.proofs.four.Four.append.Goals as goal

pub make-requires-clause-ones_inside : goal.make-requires-clause-ones_inside
make-requires-clause-ones_inside c =
    rw (c.width.ensures.value, c.width-2.ensures.value, c.width-3.ensures.value) (joined_inside c.ones.result c.ones-2.result _ _ c.ones.ensures.inside c.ones-2.ensures.inside)

pub make-requires-clause-strange_inside : goal.make-requires-clause-strange_inside
make-requires-clause-strange_inside c =
    rw (c.width.ensures.value, c.width-2.ensures.value, c.width-4.ensures.value) (joined_inside c.strange.result c.strange-2.result _ _ c.strange.ensures.inside c.strange-2.ensures.inside)

pub returns : goal.returns
returns c =
    rw (c.make.ensures.value, c.width.ensures.value, c.width-2.ensures.value, c.width-3.ensures.value, c.width-4.ensures.value, c.ones.ensures.value, c.ones-2.ensures.value, c.strange.ensures.value, c.strange-2.ensures.value) (ap (λ bs. record { bits = bs; signed = false }) (appended_law c.args.high.now.bits c.args.low.now.bits c.requires))
