-- The verdicts after the points on signals are reported, each at most once in a step.
use Rattle.std.specs.Prelude.{◌≡◌, ◌<◌, ℕ, List, [], ◌∷◌, length, Option, Some, None}
use Rattle.replay_model.specs.body_replay.Contract.{Doubted}
use Rattle.cover_points.specs.Listed.{points_of}
use Rattle.cover_points.specs.Visits.{point_at}
use Rattle.cover_points.specs.declared.listing.Points.{Points}
use Rattle.point_marks.specs.Marking.{with_doubt}
use Rattle.point_marks.specs.declared.verdict.Verdict.{Verdict}
use Rattle.point_marks.specs.declared.verdict.Verdict.TheVariants.{Hit}
use Rattle.replay_model.specs.Marks.{Marking}
use Rattle.replay_model.specs.Step.{Closing, point_notes}
use Rattle.mark_laws.specs.Marked.{verdict_at}

-- the verdict after a hit, or after a doubt
abbrev pub with_mark : Option Doubted → Verdict → Verdict
with_mark None v = Hit
with_mark (Some y) v = with_doubt (record { thing = y.thing; time = y.time }) v

-- the verdict of a point after all that is reported of it
abbrev pub with_notes : List Marking → Verdict → Verdict
with_notes [] v = v
with_notes (n ∷ ns) v = with_notes ns (with_mark n.doubt v)

-- each verdict is the one before it with what the step reports of its point
pub record FollowNotes (st : Closing) (ps : Points) (before after : List Verdict) : Type 0 where
  pub count : length after ≡ length before
  pub each : (k : ℕ) → k < length (points_of ps) → verdict_at after k ≡ with_notes (point_notes st (point_at ps k)) (verdict_at before k)
