use Rattle.std.proofs.Common.{◌<◌, arith, length, subst, sym}
use Rattle.settled_targets.proofs.Saving.{SoFar, all_saved, none_saved, one_saved}
use Rattle.settled_targets.proofs.saved.SavedValues.save.Goals as goal

pub loop-place-init : goal.loop-place-init
loop-place-init c = none_saved c.args.store.now c.args.targets.now c.args.self.now

pub loop-place-preserved : goal.loop-place-preserved
loop-place-preserved c =
    let given = c.requires.room in
    let room : c.loop-place.place < length c.args.self.now = omega (arith, given, c.loop-place-test.true) in
    subst (SoFar c.args.store.now c.args.targets.now (length c.args.self.now) _) (sym c.set.ensures)
    (one_saved c.args.store.now c.args.targets.now (length c.args.self.now) c.loop-place.place c.loop-place.self c.known_signal-value.result room (λ d k h. record { blank = h.blank; bits = c.known_signal-value.ensures d k h }) c.loop-place.invariant)

pub returns-clause-saved : goal.returns-clause-saved
returns-clause-saved c = all_saved c.args.store.now c.args.targets.now (length c.args.self.now) c.loop-place.place c.loop-place.self c.requires.room c.loop-place-test.false c.loop-place.invariant
