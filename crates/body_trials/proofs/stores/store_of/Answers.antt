use Rattle.body_trials.proofs.Made.{made_ready}
use Rattle.body_trials.proofs.stores.store_of.Goals as goal

pub new-requires-clause-few_memories : goal.new-requires-clause-few_memories
new-requires-clause-few_memories c = (c.premises_law.ensures _ c.requires).few_memories

pub returns : goal.returns
returns c =
    let laws = c.store_rooms_law.ensures in
    made_ready c.args.design.now c.requires laws.places laws.among laws.ready c.new.result c.new.ensures.holds c.new.ensures.design c.new.ensures.around c.new.ensures.hides c.new.ensures.log c.new.ensures.queue
