use Rattle.body_trials.proofs.Ready.{held_here, still_ready}
use Rattle.body_trials.proofs.stores.set_word.Goals as goal

pub returns : goal.returns
returns c =
    let x = c.args.store.now in
    let r = c.requires.ready in
    let set = c.set_word in
    still_ready c.args.design.now x set.new.self _ r set.ensures.design set.ensures.around set.ensures.hides set.ensures.rooms (set.ensures.kept r.known (held_here c.args.design.now x r))
