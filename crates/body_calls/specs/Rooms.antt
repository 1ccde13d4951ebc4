-- The room that the run of a body needs.
use Rattle.std.specs.Prelude.{◌≡◌, ◌+◌, ◌≤◌, ◌∷◌, ℕ, List, []}
use Rattle.body_calls.specs.Ways.{Around}

-- how much may still be logged inside of undecided tests, how much of that a write of each signal or memory takes at most there, and
-- how many parts may still be queued
pub record Rooms : Type 0 where
  pub log : ℕ
  pub takes : ℕ → ℕ
  pub queue : ℕ

-- how much a write takes here: nothing outside of undecided tests
abbrev pub takes_in : List Around → Rooms → ℕ → ℕ
takes_in [] r x = 0
takes_in (test ∷ outer) r x = r.takes x

-- at most so much of the log and so much of the queue is taken
pub record Leaves (logged queued : ℕ) (before after : Rooms) : Type 0 where
  pub log : before.log ≤ after.log + logged
  pub takes : after.takes ≡ before.takes
  pub queue : before.queue ≤ after.queue + queued
