use Rattle.std.proofs.Common.{◌∙◌, ap, false, sym}
use Rattle.std.specs.List.{list_any}
use Rattle.std.proofs.lemmas.List.{take_all}
use Rattle.std.proofs.lemmas.List.Elements.{All-get_or}
use Rattle.wake_bits.specs.declared.wakes.Wake.{Wake}
use Rattle.step_parts.specs.replay_model.Step.{has_changed}
use Rattle.wake_bits.specs.Laws.{IsWakeOf}
use Rattle.settling.proofs.Changing.{changed_found, none_changed, some_changed}
use Rattle.settling.proofs.Words.{watched_at}
use Rattle.settling.proofs.change.has_changed.Goals as goal

-- in place of what a process does not watch
abbrev no_wake : Wake
no_wake = record { thing = 0; mask = 0; mentioned = false }

pub returns-then-changes : goal.returns-then-changes
returns-then-changes c = λ st w p state words writes wakes.
    let wake = All-get_or (IsWakeOf st.design p) c.args.wakes.now c.loop-wake.wake-index no_wake c.loop-wake-test.true wakes.each in
    let watched = watched_at st p c.args.wakes.now c.loop-wake.wake-index no_wake c.loop-wake-test.true wakes in
    sym (changed_found st w.kept p c.args.wakes.now c.loop-wake.wake-index no_wake c.loop-wake-test.true (sym (c.changes.ensures st w p state words writes wake watched) ∙ c.if-changes.true))

pub loop-wake-preserved : goal.loop-wake-preserved
loop-wake-preserved c = λ st w p state words writes wakes.
    let wake = All-get_or (IsWakeOf st.design p) c.args.wakes.now c.loop-wake.wake-index no_wake c.loop-wake-test.true wakes.each in
    let watched = watched_at st p c.args.wakes.now c.loop-wake.wake-index no_wake c.loop-wake-test.true wakes in
    none_changed st w.kept p c.args.wakes.now c.loop-wake.wake-index no_wake c.loop-wake-test.true (c.loop-wake.invariant st w p state words writes wakes) (sym (c.changes.ensures st w p state words writes wake watched) ∙ c.if-changes.false)

pub returns : goal.returns
returns c = λ st w p state words writes wakes.
    sym (some_changed st w.kept p c.args.wakes.now ∙ ap (list_any (λ (y : Wake). has_changed st w.kept p y.thing)) (sym (take_all c.loop-wake.wake-index c.args.wakes.now c.loop-wake-test.false)) ∙ c.loop-wake.invariant st w p state words writes wakes)
