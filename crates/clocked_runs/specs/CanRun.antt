-- A store between the runs of Clocked blocks, and as the body of one of them meets it.
use Rattle.std.specs.Prelude.{◌≡◌, ◌<◌, ◌≤◌, ℕ, List, length, sum_by}
use Rattle.run_views.specs.design_model.Design.{Design, body_at}
use Rattle.run_views.specs.body_calls.Rooms.{Rooms}
use Rattle.run_views.specs.body_replay.Runs.{StoreView}
use Rattle.run_views.specs.body_replay.Store.{KnownWrite}
use Rattle.run_views.specs.body_store.Bodies.{queued_of, rooms_of}
use Rattle.run_views.specs.body_store.declared.store.Store.{Store}
use Rattle.run_views.specs.Meets.{Meets}
use Rattle.store_knowledge.specs.open_tests.Weights.{logs, queues}

-- there is room in the log for the run of each body, and in the queue for what the bodies of these processes queue together
pub record HasRoomInTurn (d : Design) (ps : List ℕ) (r : Rooms) : Type 0 where
  pub log : (p : ℕ) → p < length d.processes → logs (λ y. 0) r.takes (body_at d p) ≤ r.log
  pub queue : sum_by (λ p. queues (body_at d p)) ps ≤ r.queue

-- a body that runs meets the store as this view, these writes are queued, and there is room for the runs of these processes one after the other
pub record CanRun (d : Design) (v : StoreView) (ws : List KnownWrite) (ps : List ℕ) (x : Store) : Type 0 where
  pub meets : Meets d v x
  pub queued : queued_of x ≡ ws
  pub rooms : HasRoomInTurn d ps (rooms_of x)
