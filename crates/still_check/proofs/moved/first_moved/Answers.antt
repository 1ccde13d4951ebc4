use Rattle.std.proofs.Common.{[], subst}
use Rattle.std.proofs.lemmas.List.{take_all}
use Rattle.still_check.specs.Stays.{IsLeastMoved}
use Rattle.still_check.proofs.Least.{next_changed, next_overwritten}
use Rattle.still_check.proofs.moved.first_moved.Goals as goal

pub loop-signal-preserved : goal.loop-signal-preserved
loop-signal-preserved c = λ st at.
    next_changed st c.args.changed.now [] c.loop-signal.signal-index c.loop-signal.found c.moved-next.result c.lesser-found.result c.loop-signal-test.true (c.loop-signal.invariant st at) (c.moved-next.ensures st at) c.lesser-found.ensures

pub loop-signal-2-init : goal.loop-signal-2-init
loop-signal-2-init c = λ st at. subst (λ ss. IsLeastMoved st ss [] c.loop-signal.found) (take_all c.loop-signal.signal-index c.args.changed.now c.loop-signal-test.false) (c.loop-signal.invariant st at)

pub loop-signal-2-preserved : goal.loop-signal-2-preserved
loop-signal-2-preserved c = λ st at.
    next_overwritten st c.args.changed.now c.args.overwritten.now c.loop-signal-2.signal-index c.loop-signal-2.found c.different-next.result c.lesser-found-in-loop-signal-2.result c.loop-signal-2-test.true
    (c.loop-signal-2.invariant st at) (c.different-next.ensures st at.knows at.dumped) c.lesser-found-in-loop-signal-2.ensures

pub returns : goal.returns
returns c = λ st at.
    subst (λ ss. IsLeastMoved st c.args.changed.now ss c.loop-signal-2.found) (take_all c.loop-signal-2.signal-index c.args.overwritten.now c.loop-signal-2-test.false) (c.loop-signal-2.invariant st at)
