use Rattle.std.proofs.Common.{◌∙◌, ap, length, sym}
use Rattle.known_state.specs.Partly.{Partly}
use Rattle.settled_targets.proofs.step_values.Forgets.{known_width}
use Rattle.settling.proofs.Changing.{moved}
use Rattle.settling.proofs.change.signal_changes.Goals as goal

pub differing-requires : goal.differing-requires
differing-requires c =
    let h = c.requires.known.2 in
    ap (λ (q : Partly). length q.bits) c.before-old.ensures ∙ c.requires.fits.before.width c.args.wake.now.thing c.requires.signal ∙ sym (known_width c.requires.known.0 c.requires.known.1 c.args.store.now c.args.wake.now.thing c.known_signal-now.result h (c.known_signal-now.ensures c.requires.known.0 c.requires.known.1 h))

pub returns : goal.returns
returns c = λ st w p sets state wake moves.
    moved st w p c.args.store.now c.args.values.now sets c.args.wake.now state wake c.requires.signal c.before-old.result c.known_signal-now.result c.differing.result moves c.before-old.ensures c.known_signal-now.ensures c.differing.ensures
