use Rattle.std.proofs.Common.{ap, arith, length}
use Rattle.step_values.specs.Vectors.{StepVectors}
use Rattle.step_values.proofs.Aside.{all_so_far, memory_so_far, none_so_far, signal_so_far}
use Rattle.step_values.proofs.values.StepValues.open.Goals as goal
use Rattle.step_values.proofs.values.StepValues.open.Goals.{else-thing-len, then-thing-len}

pub loop-thing-init : goal.loop-thing-init
loop-thing-init c = none_so_far c.args.store.now c.args.self.now c.args.moves.now

pub loop-thing-preserved : goal.loop-thing-preserved
loop-thing-preserved c =
    let count = ap (λ (v : StepVectors). length v.before) c.self.view_is in
    elim c.if-thing-len.branch [
      | then-thing-len w ↦ rw w.self-is (signal_so_far c.args.store.now c.args.self.now c.args.moves.now c.loop-thing.thing-index 0 c.loop-thing.self w.set_aside.new.self c.loop-thing-test.true (omega (arith, w.if-thing-len.true, c.len.ensures, count)) w.set_aside.ensures c.loop-thing.invariant)
      | else-thing-len w ↦ rw w.self-is (memory_so_far c.args.store.now c.args.self.now c.args.moves.now c.loop-thing.thing-index 0 c.loop-thing.self c.loop-thing-test.true (omega (arith, w.if-thing-len.false, c.len.ensures, count)) c.loop-thing.invariant)
    ]

pub returns-clause-fits : goal.returns-clause-fits
returns-clause-fits c = λ d k h. (all_so_far c.args.store.now c.args.self.now c.args.moves.now c.loop-thing.thing-index c.loop-thing.self c.loop-thing-test.false c.requires c.loop-thing.invariant d k h).0

pub returns-clause-opened : goal.returns-clause-opened
returns-clause-opened c = λ d k h. (all_so_far c.args.store.now c.args.self.now c.args.moves.now c.loop-thing.thing-index c.loop-thing.self c.loop-thing-test.false c.requires c.loop-thing.invariant d k h).1
