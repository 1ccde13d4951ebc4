use Rattle.std.proofs.Common.{ap, sym, ◌∙◌}
use Rattle.four_state.proofs.PartLaws.{shift_left_law}
use Rattle.four_state.proofs.shift.left.Goals as goal

pub returns : goal.returns
returns c =
    let places = c.known_ones-places.ensures.number in
    rw (c.overlaid.ensures.value, c.fill-filled.ensures, c.width-3.ensures.value, c.is_signed-2.ensures) (ap (λ bs. record { bits = bs; signed = c.args.a.now.signed }) (shift_left_law c.raised-inside.result c.raised.result c.raised-2.result c.args.a.now.bits c.args.amount.now.bits c.width-2.ensures.within.1 (sym c.is_known.ensures ∙ c.if-not-is_known.false)
    (λ i h. rw (places, c.low_mask.ensures, c.width-2.ensures.value) at (c.raised-inside.ensures i h))
    (λ i h. rw (places, c.ones.ensures.value) at (c.raised.ensures i h))
    (λ i h. rw (places, c.strange.ensures.value) at (c.raised-2.ensures i h))))
