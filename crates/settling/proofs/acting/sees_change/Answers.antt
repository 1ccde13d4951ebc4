use Rattle.std.proofs.Common.{◌∙◌, ◌&&◌, ap, false, nat_lt, sym}
use Rattle.std.proofs.lemmas.Bool.{or_from}
use Rattle.std.proofs.lemmas.List.{take_all}
use Rattle.std.proofs.lemmas.List.Folds.{list_any_at, list_any_more}
use Rattle.body_store.specs.body_calls.Own.{is_in}
use Rattle.wake_bits.specs.declared.wakes.Wake.{Wake}
use Rattle.settling.specs.Runs.{sees_by}
use Rattle.settling.proofs.acting.sees_change.Goals as goal

-- in place of what a process does not watch
abbrev no_wake : Wake
no_wake = record { thing = 0; mask = 0; mentioned = false }

pub returns-then-sees : goal.returns-then-sees
returns-then-sees c = sym (list_any_at (λ (w : Wake). w.mentioned && (nat_lt w.thing c.args.signals && is_in c.args.changed.now.items w.thing)) c.args.wakes.now c.loop-wake.wake-index no_wake c.loop-wake-test.true (sym c.sees.ensures ∙ c.if-sees.true))

pub loop-wake-preserved : goal.loop-wake-preserved
loop-wake-preserved c =
    list_any_more (λ (w : Wake). w.mentioned && (nat_lt w.thing c.args.signals && is_in c.args.changed.now.items w.thing)) c.args.wakes.now c.loop-wake.wake-index no_wake c.loop-wake-test.true
    ∙ or_from _ _ c.loop-wake.invariant (sym c.sees.ensures ∙ c.if-sees.false)

pub returns : goal.returns
returns c = sym (ap (λ row. sees_by c.args.signals row c.args.changed.now.items) (sym (take_all c.loop-wake.wake-index c.args.wakes.now c.loop-wake-test.false)) ∙ c.loop-wake.invariant)
