use Rattle.body_trials.proofs.Ready.{held_here, still_ready}
use Rattle.body_trials.proofs.stores.keep_signal.Goals as goal

pub returns : goal.returns
returns c =
    let x = c.args.store.now in
    let r = c.requires.ready in
    still_ready c.args.design.now x c.set.new.self _ r c.set.ensures.design c.set.ensures.around c.set.ensures.hides c.set.ensures.rooms (c.set.ensures.kept r.known (held_here c.args.design.now x r))
