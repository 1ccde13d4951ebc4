use Rattle.std.proofs.Common.{◌<◌, ◌≤◌, length, arith}
use Rattle.value_store.proofs.Slots.{all_made, one_made}
use Rattle.value_store.proofs.signals.Signals.new.Goals as goal

pub loop-place-preserved : goal.loop-place-preserved
loop-place-preserved c =
    let l : c.loop-place.place < length c.args.signals.now = omega arith in
    one_made c.loop-place.place c.args.signals.now c.loop-place.slots.items c.push.new.self.items c.index-signals-place.result c.new.result l c.index-signals-place.is c.in_ok-push.ensures.items c.new.ensures.shape c.new.ensures.kept c.new.ensures.slot c.loop-place.invariant

pub returns : goal.returns
returns c =
    let l : length c.args.signals.now ≤ c.loop-place.place = omega arith in
    all_made c.loop-place.place c.args.signals.now c.loop-place.slots.items l c.loop-place.invariant
