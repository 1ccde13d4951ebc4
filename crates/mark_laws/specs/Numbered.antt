-- What a replay reports, as markings of the numbers of points.
use Rattle.std.specs.Prelude.{◌≡◌, ◌<◌, ℕ, List, [], ◌∷◌, length, Option, Some, None, ⊤}
use Rattle.replay_model.specs.body_replay.Contract.{Doubted}
use Rattle.replay_model.specs.body_replay.Replay.{Spot, line, node, word_read, word_write}
use Rattle.cover_points.specs.Listed.{points_of}
use Rattle.cover_points.specs.Visits.{point_at}
use Rattle.cover_points.specs.declared.listing.Points.{Points}
use Rattle.cover_points.specs.declared.visit.Visit.{Visit}
use Rattle.cover_points.specs.declared.visit.Visit.TheVariants.{Line, Node, Read, Write}
use Rattle.replay_model.specs.design_model.Design.{Design}
use Rattle.point_marks.specs.Marking.{Marking}
use Rattle.point_marks.specs.declared.verdict.Doubt.{Doubt}
use Rattle.point_marks.specs.declared.verdict.Verdict.{Verdict}
use Rattle.point_marks.specs.declared.verdict.Verdict.TheVariants as marks
use Rattle.replay_model.specs.Marks as replay

-- the visit of a spot of process p
abbrev pub visit_at : ℕ → Spot → Visit
visit_at p (line n) = Line p n
visit_at p (node n c) = Node p n c
visit_at p (word_read m i) = Read m i
visit_at p (word_write m i) = Write m i

-- a doubt of a replay, as it is marked
abbrev pub doubt_of : Option Doubted → Option Doubt
doubt_of None = None
doubt_of (Some y) = Some (record { thing = y.thing; time = y.time })

-- what is reported is a marking of the number of a point of which it is a key
pub record IsNumbered (d : Design) (ps : Points) (n : replay.Marking) (m : Marking) : Type 0 where
  pub listed : m.point < length (points_of ps)
  pub key : replay.IsKeyOf d (point_at ps m.point) n.key
  pub doubt : m.doubt ≡ doubt_of n.doubt

-- all that is reported is marked so, in order
abbrev pub AreNumbered : Design → Points → List replay.Marking → List Marking → Type 0
AreNumbered d ps [] [] = ⊤
AreNumbered d ps [] (m ∷ ms) = ⊥
AreNumbered d ps (n ∷ ns) [] = ⊥
AreNumbered d ps (n ∷ ns) (m ∷ ms) = IsNumbered d ps n m × AreNumbered d ps ns ms

-- a verdict by number as the verdict of the point
abbrev pub verdict_view : Verdict → replay.Verdict
verdict_view marks.Hit = replay.Hit
verdict_view marks.Missed = replay.Missed
verdict_view (marks.Undetermined y) = replay.Undetermined (record { time = y.time; thing = y.thing })
