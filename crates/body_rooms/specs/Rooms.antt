-- The room that the runs of the bodies of a design need.
use Rattle.std.specs.Prelude.{◌≡◌, ◌<◌, ◌≤◌, ℕ, [], length}
use Rattle.design_model.specs.Design.{Design, body_at}
use Rattle.design_model.specs.Lawful.{IsLawfulDesign}
use Rattle.design_model.specs.View.{design_view}
use Rattle.value_store.specs.Rooms.{as_usize, log_takes, most_logged, processes_queued, queued_parts}
use Rattle.body_store.specs.body_calls.Rooms.{Rooms}
use Rattle.open_tests.specs.Weights.{HasRoomFor}
use Rattle.body_store.specs.Bodies.{rooms_of}
use Rattle.body_store.specs.Views.{under_of}
use Rattle.body_store.specs.declared.store.Store.{Store}

-- *counted*: what the runs of the bodies log at most is a `usize`
abbrev pub CountedLaw : Type 0
CountedLaw = (d : Design) → IsLawfulDesign d → as_usize (most_logged (log_takes d) d.processes) ≡ most_logged (log_takes d) d.processes

-- *room*: with so much room in the log, and in the queue that for its own nonblocking assignments, each body can run
abbrev pub RoomLaw : Type 0
RoomLaw =
    (d : Design) (p : ℕ) (r : Rooms) → p < length d.processes → r.takes ≡ log_takes d → most_logged (log_takes d) d.processes ≤ r.log → queued_parts (body_at d p) ≤ r.queue
    → HasRoomFor (body_at d p) [] r

-- *places*: the queue of a store has a place for each part of the nonblocking assignments of its design
abbrev pub PlacesLaw : Type 0
PlacesLaw = (x : Store) → IsLawfulDesign (design_view x.design.now) → x.updates.room ≡ processes_queued (design_view x.design.now).processes

-- *among*: the parts of one body are among those
abbrev pub AmongLaw : Type 0
AmongLaw = (d : Design) (p : ℕ) → p < length d.processes → queued_parts (body_at d p) ≤ processes_queued d.processes

-- *ready*: a store whose log is free has room for the run of each body for whose parts there are places left in the queue
abbrev pub ReadyLaw : Type 0
ReadyLaw =
    (x : Store) (p : ℕ) → IsLawfulDesign (design_view x.design.now) → p < length (design_view x.design.now).processes → (rooms_of x).log ≡ (under_of x).log
    → queued_parts (body_at (design_view x.design.now) p) ≤ (rooms_of x).queue → HasRoomFor (body_at (design_view x.design.now) p) [] (rooms_of x)
