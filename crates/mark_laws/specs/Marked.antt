-- The verdicts of a list of points by what was reported so far.
use Rattle.std.specs.Prelude.{◌≡◌, ◌<◌, ℕ, List, length, slice_index_or}
use Rattle.cover_points.specs.Listed.{points_of}
use Rattle.cover_points.specs.Visits.{point_at}
use Rattle.cover_points.specs.declared.listing.Points.{Points}
use Rattle.replay_model.specs.design_model.Design.{Design}
use Rattle.mark_laws.specs.Numbered.{verdict_view}
use Rattle.point_marks.specs.declared.verdict.Verdict.{Verdict}
use Rattle.point_marks.specs.declared.verdict.Verdict.TheVariants.{Missed}
use Rattle.replay_model.specs.Marks.{IsKeyOf, IsVerdict, Key, Marking}

-- the verdict of the point with a number
abbrev pub verdict_at : List Verdict → ℕ → Verdict
verdict_at vs k = slice_index_or vs k Missed

-- each listed point has a verdict, and it is the one by what was reported
pub record AreVerdicts (d : Design) (ps : Points) (ns : List Marking) (vs : List Verdict) : Type 0 where
  pub count : length vs ≡ length (points_of ps)
  pub each : (k : ℕ) → k < length (points_of ps) → IsVerdict d (point_at ps k) ns (verdict_view (verdict_at vs k))

-- no listed point has the key
abbrev pub IsNoKey : Design → Points → Key → Type 0
IsNoKey d ps key = (k : ℕ) → k < length (points_of ps) → IsKeyOf d (point_at ps k) key → ⊥
