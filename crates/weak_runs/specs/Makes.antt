-- What the weak run of a part of a body does.
use Rattle.std.specs.Prelude.{◌≡◌, ◌≤◌, ◌+◌, ◌++◌, ℕ, List, []}
use Rattle.value_store.specs.body_replay.Store.{KnownWrite, keep_all}
use Rattle.term_replay.specs.Stands.{Scene}
use Rattle.body_calls.specs.Own.{IsOwn}
use Rattle.body_calls.specs.Rooms.{Rooms}
use Rattle.body_calls.specs.Under.{Under, kept_with}
use Rattle.body_calls.specs.Ways.{Around}

-- what a store knows: what is kept of what is shown or veiled, what bodies read, what is queued, the undecided tests around, and the room
pub record At : Type 0 where
  pub under : Under
  pub scene : Scene
  pub queued : List KnownWrite
  pub around : List Around
  pub rooms : Rooms

-- of these five
abbrev pub at : Under → Scene → List KnownWrite → List Around → Rooms → At
at u v q a r = record { under = u; scene = v; queued = q; around = a; rooms = r }

-- what is kept
abbrev pub kept_at : At → Scene
kept_at x = kept_with x.under x.scene

-- outside of undecided tests, with each signal and memory of what is kept to blame for itself
pub record IsOutside (x : At) : Type 0 where
  pub around : x.around ≡ []
  pub own : IsOwn (kept_at x)

-- the first writes are made to what is kept and the others are queued, at most so many parts of them; the design, what is shown or
-- veiled, the size of the log and what writes take of it are the same
pub record Makes (ws vs : List KnownWrite) (n : ℕ) (before after : At) : Type 0 where
  pub kept : (kept_at after).kept ≡ keep_all (kept_at before).kept ws
  pub queued : after.queued ≡ before.queued ++ vs
  pub design : after.scene.design ≡ before.scene.design
  pub hidden : after.under.hidden ≡ before.under.hidden
  pub size : after.under.log ≡ before.under.log
  pub outside : IsOutside after
  pub takes : after.rooms.takes ≡ before.rooms.takes
  pub queue : before.rooms.queue ≤ after.rooms.queue + n
