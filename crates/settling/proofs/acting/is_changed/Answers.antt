use Rattle.std.proofs.Common.{◌∙◌, ◌&&◌, ap, arith, lt-ltb, nat_lt, sym}
use Rattle.std.proofs.lemmas.Bool.{false_from_ne_true, ltb-true}
use Rattle.body_store.specs.body_calls.Own.{is_in}
use Rattle.early_sets.proofs.Membership.{is_in_is}
use Rattle.settling.proofs.acting.is_changed.Goals as goal

pub returns-then-thing-signals : goal.returns-then-thing-signals
returns-then-thing-signals c =
    is_in_is c.args.changed.now.items c.args.thing c.contains.result c.contains.ensures
    ∙ ap (λ t. t && is_in c.args.changed.now.items c.args.thing) (sym (lt-ltb c.args.thing c.args.signals c.if-thing-signals.true))

pub returns : goal.returns
returns c =
    sym (ap (λ t. t && is_in c.args.changed.now.items c.args.thing) (false_from_ne_true (nat_lt c.args.thing c.args.signals) (λ e.
    let below = ltb-true c.args.thing c.args.signals e in
    let past = c.if-thing-signals.false in
    omega (arith, below, past))))
