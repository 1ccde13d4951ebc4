use Rattle.bit_changes.proofs.Bits.{unlike_at}
use Rattle.bit_changes.proofs.compare.unlike.Goals as goal

pub returns : goal.returns
returns c =
    λ i l. rw (c.ones.ensures.value, c.ones-2.ensures.value, c.strange.ensures.value, c.strange-2.ensures.value, c.value-a.ensures.value, c.value-b.ensures.value) (unlike_at c.args.a.now.bits c.args.b.now.bits i l (rw (← c.requires) l))
