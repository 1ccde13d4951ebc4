-- What holds of the replay between two stretches of a dump, and before the first.
use Rattle.std.specs.Prelude.{◌≡◌, ◌⊎◌, ◌<◌, ℕ, true, List}
use Rattle.event_machine.specs.Habit.{Habit}
use Rattle.design_model.specs.four_state.declared.bit.Bit.{Bit}
use Rattle.design_model.specs.declared.point.Point.{Point}
use Rattle.design_model.specs.Design.{Design, In, IsComb, body_at, process_at, signal_bits}
use Rattle.design_model.specs.Run.{Run, settled}
use Rattle.design_model.specs.Shows.{BoundDump, IsShowing, IsWindow}
use Rattle.design_model.specs.StepLaws.{IsLeft}
use Rattle.design_model.specs.Points.{IsHitAt}
use Rattle.design_model.specs.Clear.{HasChanged, IsForced}
use Rattle.design_model.specs.Open.{IsReached}
use Rattle.design_model.specs.Doubt.{IsInDoubt}
use Rattle.hidden_times.specs.Hidden.{IsSameTime}
use Rattle.body_replay.specs.Contract.{Doubted}
use Rattle.replay_model.specs.Marks.{IsDoubtMarked, IsHitMarked}
use Rattle.replay_model.specs.Step.{Replay}

-- the replay has passed all that the dump shows before time u: what it has reported is right of it, and a Comb that has acted has left its targets so
pub record IsPaused (d : Design) (h : Habit) (dump : BoundDump) (points : List Point) (u : ℕ) (a : Replay) : Type 0 where
  -- a Comb that has acted has left its targets so
  pub acted : (r : Run) → IsShowing d h dump u r → (p : ℕ) → IsComb (process_at d p) → a.acted p ≡ true → IsLeft d p (settled d r u)
  -- a point that was reported to be hit is hit in each run that shows the dump up to u
  pub hits : (x : Point) → IsHitMarked d x a.notes → (r : Run) → IsShowing d h dump u r → (v : ℕ) × IsWindow dump v × (v < u) × IsHitAt d dump r x v
  -- a point that is hit in such a run before u was reported to be hit, or to be in doubt at that time or one that is the same
  pub marked : (x : Point) → In x points → (r : Run) → IsShowing d h dump u r → (v : ℕ) → IsWindow dump v → v < u → IsHitAt d dump r x v
      → IsHitMarked d x a.notes ⊎ ((y : Doubted) × IsSameTime dump y.time v × IsDoubtMarked d x y a.notes)
  -- a Comb of which a bound signal that it mentions has changed has acted
  pub has_acted : (p : ℕ) → IsComb (process_at d p) → (v : ℕ) → v < u → HasChanged dump d (body_at d p) v → a.acted p ≡ true
  -- each doubt that was reported is one
  pub doubts : (x : Point) (y : Doubted) → IsDoubtMarked d x y a.notes → IsWindow dump y.time × (y.time < u) × IsInDoubt d h dump x y.time y.thing
  -- each point that was reached was reported to be hit
  pub reached : (v p : ℕ) (x : Point) → v < u → IsReached d h dump v p x → IsHitMarked d x a.notes
  -- no forced value differs from the dump's
  pub forced : (v s : ℕ) (bits : List Bit) → v < u → IsForced d h dump v s bits → signal_bits d (dump.values v) s ≡ bits
