use Rattle.std.proofs.Common.{None, get_or, ◌∙◌}
use Rattle.four_state.specs.Vector.{is_one}
use Rattle.bit_changes.proofs.Bits.{mask_at, one_if}
use Rattle.bit_changes.proofs.toggles.ones.Goals as goal

pub returns : goal.returns
returns c =
    λ i l. rw (c.known_ones.ensures.value, c.value.ensures.value) (mask_at is_one c.args.value.now.bits i l ∙ one_if (get_or c.args.value.now.bits i None))
