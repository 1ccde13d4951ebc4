use Rattle.std.proofs.Common.{ap}
use Rattle.known_state.proofs.Bits.{unsure_inside, filled_masks}
use Rattle.known_state.proofs.known.Known.filled_from.Goals as goal

pub make-requires-clause-ones_inside : goal.make-requires-clause-ones_inside
make-requires-clause-ones_inside c =
    rw (c.low_mask.ensures, c.width.ensures.value, c.width-2.ensures.value) (unsure_inside c.self.inside.value.bits c.args.other.now.bits c.self.inside.sure c.self.invariant.blank c.self.invariant.inside c.width.ensures.within.1 c.ones.result c.ones-2.result c.ones.ensures.inside)

pub make-requires-clause-strange_inside : goal.make-requires-clause-strange_inside
make-requires-clause-strange_inside c =
    rw (c.low_mask.ensures, c.width.ensures.value, c.width-2.ensures.value) (unsure_inside c.self.inside.value.bits c.args.other.now.bits c.self.inside.sure c.self.invariant.blank c.self.invariant.inside c.width.ensures.within.1 c.strange.result c.strange-2.result c.strange.ensures.inside)

pub returns : goal.returns
returns c =
    rw (← c.self.view_is, c.make.ensures.value, c.low_mask.ensures, c.width.ensures.value, c.width-2.ensures.value, c.is_signed.ensures, c.ones.ensures.value, c.ones-2.ensures.value, c.strange.ensures.value, c.strange-2.ensures.value) (ap (λ bs. record { bits = bs; signed = c.self.inside.value.signed }) (filled_masks c.self.inside.value.bits c.args.other.now.bits c.self.inside.sure c.self.invariant.blank c.self.invariant.inside c.width.ensures.within.1))
