use Rattle.std.proofs.Common.{ap, sym, ◌∙◌}
use Rattle.four_state.proofs.PartLaws.{shift_right_law}
use Rattle.four_state.proofs.shift.right.Goals as goal

pub returns : goal.returns
returns c =
    let places = c.known_ones-places.ensures.number in
    rw (c.overlaid.ensures.value, c.fill-filled.ensures, c.width-3.ensures.value, c.is_signed-2.ensures) (ap (λ bs. record { bits = bs; signed = c.args.a.now.signed }) (shift_right_law c.args.filler c.lowered-inside.result c.lowered.result c.lowered-2.result c.args.a.now.bits c.args.amount.now.bits c.width-2.ensures.within.1 (sym c.is_known.ensures ∙ c.if-not-is_known.false)
    (λ i. rw (places, c.low_mask.ensures, c.width-2.ensures.value) at (c.lowered-inside.ensures i))
    (λ i. rw (places, c.ones.ensures.value) at (c.lowered.ensures i))
    (λ i. rw (places, c.strange.ensures.value) at (c.lowered-2.ensures i))))
