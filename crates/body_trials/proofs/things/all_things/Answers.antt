use Rattle.std.proofs.Common.{◌<◌, ◌+◌, length, arith}
use Rattle.std.proofs.lemmas.Bool.{ltb-true}
use Rattle.design_model.specs.View.{design_view}
use Rattle.body_trials.proofs.Numbers.{counts}
use Rattle.body_trials.proofs.Below.{below_more, below_none}
use Rattle.body_trials.proofs.things.all_things.Goals as goal

pub loop-number-init : goal.loop-number-init
loop-number-init c = below_none (design_view c.args.design.now) _ c.in_ok-things.ensures.items

pub loop-number-preserved : goal.loop-number-preserved
loop-number-preserved c =
    let d = c.args.design.now in
    let signals = c.len-signals.ensures in
    let memories = c.len-memories.ensures in
    let below = c.loop-number-test.true in
    let inside : c.loop-number.number < length d.signals + length d.memories = omega (arith, below, signals, memories) in
    below_more (design_view d) c.loop-number.things.items c.push.new.self.items c.loop-number.number c.in_ok-push.ensures.items (counts (design_view d) c.loop-number.number inside) c.loop-number.invariant

pub returns-clause-numbers : goal.returns-clause-numbers
returns-clause-numbers c = c.loop-number.invariant.numbers

pub returns-clause-all : goal.returns-clause-all
returns-clause-all c = λ x e.
    let d = c.args.design.now in
    let signals = c.len-signals.ensures in
    let memories = c.len-memories.ensures in
    let past = c.loop-number-test.false in
    let inside : x < length d.signals + length d.memories = ltb-true x (length d.signals + length d.memories) e in
    c.loop-number.invariant.all x (omega (arith, past, inside, signals, memories))
