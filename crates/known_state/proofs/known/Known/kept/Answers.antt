use Rattle.known_state.proofs.Masked.{kept_law, kept_value}
use Rattle.known_state.proofs.known.Known.kept.Goals as goal

pub invariant_of-result : goal.invariant_of-result
invariant_of-result c =
    rw (c.spared.ensures, c.make.ensures.value, c.low_mask-all.ensures, c.width.ensures.value, c.width-2.ensures.value, c.ones.ensures.value, c.strange.ensures.value) (kept_law c.args.value.now.bits c.is_signed.result c.args.sure c.args.blame)

pub returns : goal.returns
returns c =
    rw (c.spared.ensures, c.make.ensures.value, c.low_mask-all.ensures, c.width.ensures.value, c.width-2.ensures.value, c.ones.ensures.value, c.strange.ensures.value, c.is_signed.ensures) (kept_value c.args.value.now.bits c.args.value.now.signed c.args.sure c.args.blame)
