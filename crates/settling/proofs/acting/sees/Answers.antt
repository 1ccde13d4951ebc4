use Rattle.std.proofs.Common.{◌∙◌, ◌&&◌, ap, nat_lt, sym}
use Rattle.body_store.specs.body_calls.Own.{is_in}
use Rattle.settling.proofs.acting.sees.Goals as goal

pub returns : goal.returns
returns c = c.is_changed.ensures ∙ ap (λ t. t && (nat_lt c.args.wake.now.thing c.args.signals && is_in c.args.changed.now.items c.args.wake.now.thing)) (sym c.if-not-wake.false)
