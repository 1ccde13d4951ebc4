use Rattle.std.proofs.Common.{ap}
use Rattle.four_state.proofs.PartLaws.{placed_law}
use Rattle.std.specs.Int.{w64}
use Rattle.std.proofs.lemmas.Int.{to_z-of_z}
use Rattle.four_state.proofs.four.Four.place.Goals as goal

pub returns : goal.returns
returns c =
    let low = to_z-of_z w64 c.args.low c.ranges.low in
    rw c.overlaid.ensures.value (ap (λ bs. record { bits = bs; signed = c.args.self.now.signed }) (placed_law c.put_at-inside.result c.put_at.result c.put_at-2.result c.args.low c.args.self.now.bits c.args.part.now.bits c.overlaid.ensures.within.1
    (λ i h. rw (low, c.low_mask.ensures, c.width.ensures.value) at (c.put_at-inside.ensures i h))
    (λ i h. rw (low, c.ones.ensures.value) at (c.put_at.ensures i h))
    (λ i h. rw (low, c.strange.ensures.value) at (c.put_at-2.ensures i h))))
