use Rattle.body_rooms.proofs.Counted.{counted}
use Rattle.body_rooms.proofs.Weighed.{has_room}
use Rattle.body_rooms.proofs.rooms_law.Goals as goal

pub returns-clause-counted : goal.returns-clause-counted
returns-clause-counted c = counted

pub returns-clause-room : goal.returns-clause-room
returns-clause-room c = has_room
