-- The states of machines that were reported.
use Rattle.std.specs.Prelude.{◌≡◌, ◌<◌, ℕ, Bool, true, List, length, ⊤}
use Rattle.mark_laws.specs.cover_points.Listed.{points_of}
use Rattle.mark_laws.specs.cover_points.Visits.{point_at}
use Rattle.mark_laws.specs.cover_points.declared.listing.Points.{Points}
use Rattle.mark_laws.specs.replay_model.Marks.{IsHitMarked, IsUnmarked, Marking}
use Rattle.mark_laws.specs.replay_model.Step.{Replay, are_surely, known_bits, may_be}
use Rattle.mark_laws.specs.replay_model.design_model.Design.{Design}
use Rattle.mark_laws.specs.replay_model.design_model.declared.point.Point.{Point}
use Rattle.mark_laws.specs.replay_model.design_model.declared.point.Point.TheVariants.{State as state_point}

-- the point was reported to be hit where it surely is, and something was reported of it where it may be
pub record IsTold (d : Design) (x : Point) (ns : List Marking) (sure possible : Bool) : Type 0 where
  pub hit : sure ≡ true → IsHitMarked d x ns
  pub some : possible ≡ true → IsUnmarked d x ns → ⊥

-- a state was reported in this way, by what is known; other points need not be
abbrev pub IsToldOf : Design → Replay → Point → Type 0
IsToldOf d a (state_point i name s state x) =
    IsTold d (state_point i name s state x) a.notes (are_surely (known_bits d a.kept s) x.bits) (may_be (known_bits d a.kept s) x.bits)
IsToldOf d a _ = ⊤

-- each state among these points was
abbrev pub AreTold : Design → Points → Replay → Type 0
AreTold d ps a = (k : ℕ) → k < length (points_of ps) → IsToldOf d a (point_at ps k)
