use Rattle.body_rooms.proofs.Stores.{among, has_places, is_ready}
use Rattle.body_rooms.proofs.store_rooms_law.Goals as goal

pub returns-clause-places : goal.returns-clause-places
returns-clause-places c = has_places

pub returns-clause-among : goal.returns-clause-among
returns-clause-among c = among

pub returns-clause-ready : goal.returns-clause-ready
returns-clause-ready c = is_ready
