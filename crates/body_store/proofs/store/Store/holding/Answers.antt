use Rattle.body_store.proofs.BlocksKept.{whole_room}
use Rattle.body_store.proofs.BlocksOwn.{own_held, scene_held}
use Rattle.body_store.proofs.store.Store.holding.Goals as goal

pub returns-clause-held : goal.returns-clause-held
returns-clause-held c = scene_held c.args.self.now c.fitting.ensures.kept

pub returns-clause-own : goal.returns-clause-own
returns-clause-own c = λ own. own_held c.args.self.now c.fitting.ensures.kept own

pub returns-clause-room : goal.returns-clause-room
returns-clause-room c = λ none. whole_room c.args.self.now none c.outside.ensures.done c.outside.ensures.undone c.outside-2.ensures.done c.outside-2.ensures.undone
