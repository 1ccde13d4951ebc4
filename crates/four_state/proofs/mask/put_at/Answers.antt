use Rattle.std.proofs.Common.{◌∙◌}
use Rattle.four_state.proofs.PartLaws.{put_below, put_above}
use Rattle.std.proofs.lemmas.Int.{to_z-of_z}
use Rattle.four_state.proofs.mask.put_at.Goals as goal

pub returns-then-place-lt0 : goal.returns-then-place-lt0
returns-then-place-lt0 c =
    let fits = c.ranges.place in
    λ i h. c.lowered.ensures i ∙ put_below c.args.mask i c.unsigned_abs.result c.args.place (simp to_z-of_z at c.unsigned_abs.ensures.value) (simp to_z-of_z at c.if-place-lt0.true)

pub returns-else-place-lt0 : goal.returns-else-place-lt0
returns-else-place-lt0 c =
    let fits = c.ranges.place in
    λ i h. c.raised.ensures i h ∙ put_above c.args.mask i c.unsigned_abs-else-place-lt0.result c.args.place (simp to_z-of_z at c.unsigned_abs-else-place-lt0.ensures.value) (simp to_z-of_z at c.if-place-lt0.false)
