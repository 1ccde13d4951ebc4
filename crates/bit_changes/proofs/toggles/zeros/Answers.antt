use Rattle.std.proofs.Common.{None, get_or, ◌∙◌}
use Rattle.four_state.specs.Vector.{is_zero}
use Rattle.bit_changes.proofs.Bits.{mask_at, zero_if}
use Rattle.bit_changes.proofs.toggles.zeros.Goals as goal

pub returns : goal.returns
returns c =
    λ i l. rw (c.known_zeros.ensures.value, c.value.ensures.value) (mask_at is_zero c.args.value.now.bits i l ∙ zero_if (get_or c.args.value.now.bits i None))
