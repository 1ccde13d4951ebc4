use Rattle.std.proofs.Common.{◌≡◌, ◌∙◌, Bool, true, false, not, ap, sym}
use Rattle.std.proofs.lemmas.List.{take_all}
use Rattle.std.proofs.lemmas.List.Elements.{All-get_or}
use Rattle.wake_bits.specs.declared.wakes.Wake.{Wake}
use Rattle.step_parts.specs.replay_model.Step.{first_unsure}
use Rattle.wake_bits.specs.Laws.{IsWakeOf}
use Rattle.settling.specs.Wakes.{things_of}
use Rattle.settling.proofs.Changing.{first_found, none_more}
use Rattle.settling.proofs.Words.{watched_at}
use Rattle.settling.proofs.change.first_unsure.Goals as goal

-- in place of what a process does not watch
abbrev no_wake : Wake
no_wake = record { thing = 0; mask = 0; mentioned = false }

from_not : (a b : Bool) → not a ≡ b → a ≡ not b
from_not true b e = ap not e
from_not false b e = ap not e

pub returns-then-may_change : goal.returns-then-may_change
returns-then-may_change c = λ st w p state words writes wakes.
    let wake = All-get_or (IsWakeOf st.design p) c.args.wakes.now c.loop-wake.wake-index no_wake c.loop-wake-test.true wakes.each in
    let watched = watched_at st p c.args.wakes.now c.loop-wake.wake-index no_wake c.loop-wake-test.true wakes in
    sym (first_found st w.kept p c.args.wakes.now c.loop-wake.wake-index no_wake c.loop-wake-test.true (c.loop-wake.invariant st w p state words writes wakes) (from_not _ true (sym (c.may_change.ensures st w p state words writes wake watched) ∙ c.if-may_change.true)))

pub loop-wake-preserved : goal.loop-wake-preserved
loop-wake-preserved c = λ st w p state words writes wakes.
    let wake = All-get_or (IsWakeOf st.design p) c.args.wakes.now c.loop-wake.wake-index no_wake c.loop-wake-test.true wakes.each in
    let watched = watched_at st p c.args.wakes.now c.loop-wake.wake-index no_wake c.loop-wake-test.true wakes in
    none_more st w.kept p c.args.wakes.now c.loop-wake.wake-index no_wake c.loop-wake-test.true (c.loop-wake.invariant st w p state words writes wakes) (from_not _ false (sym (c.may_change.ensures st w p state words writes wake watched) ∙ c.if-may_change.false))

pub returns : goal.returns
returns c = λ st w p state words writes wakes.
    sym (ap (λ row. first_unsure st w.kept p (things_of row)) (sym (take_all c.loop-wake.wake-index c.args.wakes.now c.loop-wake-test.false)) ∙ c.loop-wake.invariant st w p state words writes wakes)
