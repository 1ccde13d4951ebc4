-- How much of the log and of the queue an assignment takes at most.
use Rattle.std.specs.Prelude.{◌+◌, ◌≤◌, ℕ, Bool, if◌then◌else◌}
use Rattle.design_model.specs.Tree.{Target, Targets, a_target, all_of, bits_of, no_targets, several, word_of}
use Rattle.scene_laws.specs.body_calls.Rooms.{Rooms}

-- the sum of what the signal or memory of each part takes
abbrev mutual
  pub target_takes : (ℕ → ℕ) → Target → ℕ
  target_takes takes (all_of s) = takes s
  target_takes takes (bits_of s low w) = takes s
  target_takes takes (word_of m i) = takes m
  target_takes takes (several ts) = all_take takes ts

  pub all_take : (ℕ → ℕ) → Targets → ℕ
  all_take takes no_targets = 0
  all_take takes (a_target t ts) = target_takes takes t + all_take takes ts

-- what a blocking assignment takes of the log
abbrev pub set_logs : (ℕ → ℕ) → Bool → Target → ℕ
set_logs takes blocking x = if blocking then target_takes takes x else 0

-- what a nonblocking assignment takes of the queue: one place for each part
abbrev pub set_queues : Bool → Target → ℕ
set_queues blocking x = if blocking then 0 else target_takes (λ y. 1) x

-- there is so much room in the log and so much in the queue
pub record HasRoom (logged queued : ℕ) (r : Rooms) : Type 0 where
  pub log : logged ≤ r.log
  pub queue : queued ≤ r.queue
