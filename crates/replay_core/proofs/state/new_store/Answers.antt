use Rattle.replay_core.proofs.Untouched.{new_knows}
use Rattle.replay_core.proofs.state.new_store.Goals as goal

pub new-requires-clause-few_memories : goal.new-requires-clause-few_memories
new-requires-clause-few_memories c = (c.premises_law.ensures _ c.requires).few_memories

pub returns : goal.returns
returns c =
    let laws = c.store_rooms_law.ensures in
    new_knows c.args.design.now c.requires laws.places laws.among laws.ready c.new_store_law.ensures c.new.result c.new.ensures.holds c.new.ensures.design c.new.ensures.queued c.new.ensures.around c.new.ensures.hides c.new.ensures.log c.new.ensures.queue
