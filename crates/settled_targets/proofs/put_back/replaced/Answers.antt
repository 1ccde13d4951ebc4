use Rattle.std.proofs.Common.{◌∙◌, None, ap, if◌then◌else◌, sym}
use Rattle.four_state.specs.Masks.{is_set}
use Rattle.bit_changes.specs.Changes.{bit_at}
use Rattle.settled_targets.proofs.put_back.replaced.Goals as goal

pub returns-then-holds-clause-bits : goal.returns-then-holds-clause-bits
returns-then-holds-clause-bits c = λ i l. c.merged.ensures.bits i l ∙ ap (λ h. if is_set c.args.bits.now.mask i then (if h then bit_at c.args.left.now.bits i else None) else bit_at c.args.old.now.bits i) (sym c.if-holds.true)

pub returns-else-holds-clause-bits : goal.returns-else-holds-clause-bits
returns-else-holds-clause-bits c = λ i l. c.forgotten.ensures.bits i l ∙ ap (λ h. if is_set c.args.bits.now.mask i then (if h then bit_at c.args.left.now.bits i else None) else bit_at c.args.old.now.bits i) (sym c.if-holds.false)
