use Rattle.std.proofs.Common.{false, ap}
use Rattle.four_state.proofs.PartLaws.{selected_law}
use Rattle.std.specs.Int.{w64}
use Rattle.std.proofs.lemmas.Int.{to_z-of_z}
use Rattle.four_state.proofs.four.Four.select.Goals as goal

pub returns : goal.returns
returns c =
    let low = to_z-of_z w64 c.args.low c.ranges.low in
    rw (c.overlaid.ensures.value, c.fill-outside.ensures) (ap (λ bs. record { bits = bs; signed = false }) (selected_law c.args.width c.seen_from-inside.result c.seen_from.result c.seen_from-2.result c.args.low c.args.self.now.bits c.requires.at_most
    (λ i h. rw (low, c.low_mask.ensures, c.width.ensures.value) at (c.seen_from-inside.ensures i h))
    (λ i h. rw (low, c.ones.ensures.value) at (c.seen_from.ensures i h))
    (λ i h. rw (low, c.strange.ensures.value) at (c.seen_from-2.ensures i h))))
