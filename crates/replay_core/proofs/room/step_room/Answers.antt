use Rattle.body_store.proofs.Lawful.{premises}
use Rattle.replay_core.proofs.room.step_room.Goals as goal

pub new-requires-2-clause-widths : goal.new-requires-2-clause-widths
new-requires-2-clause-widths c = (premises _ c.requires).widths
