-- What is reported to the marks of a design's points, in order, and the verdict that follows.
use Rattle.std.specs.Prelude.{◌≡◌, ◌⊎◌, ℕ, List, [], ◌∷◌, ◌++◌, map, Option, Some, None}
use Rattle.design_model.specs.Design.{Design}
use Rattle.design_model.specs.declared.point.Point.{Point}
use Rattle.design_model.specs.Points.{IsBlock}
use Rattle.body_replay.specs.Contract.{Doubted, Note, spot_at}
use Rattle.body_replay.specs.Replay.{Spot}

-- of what something is reported: a spot of a process, or a point on a signal
pub data Key : Type 0 where
  of_process : ℕ → Spot → Key
  of_point : Point → Key

-- something that is reported: a hit, or a doubt
pub record Marking : Type 0 where
  pub key : Key
  pub doubt : Option Doubted

-- the key is one of the point's
abbrev pub IsKeyOf : Design → Point → Key → Type 0
IsKeyOf d x (of_process p spot) = (spot_at x ≡ Some spot) × IsBlock d x p
IsKeyOf d x (of_point y) = y ≡ x

-- the point was reported to be hit
abbrev pub IsHitMarked : Design → Point → List Marking → Type 0
IsHitMarked d x [] = ⊥
IsHitMarked d x (n ∷ ns) = (IsKeyOf d x n.key × (n.doubt ≡ None)) ⊎ IsHitMarked d x ns

-- this doubt of the point was reported
abbrev pub IsDoubtMarked : Design → Point → Doubted → List Marking → Type 0
IsDoubtMarked d x y [] = ⊥
IsDoubtMarked d x y (n ∷ ns) = (IsKeyOf d x n.key × (n.doubt ≡ Some y)) ⊎ IsDoubtMarked d x y ns

-- what a run of process p reports
abbrev pub marking_by : ℕ → Note → Marking
marking_by p n = record { key = of_process p n.spot; doubt = n.doubt }

-- what a run of process p reports, in order
abbrev pub markings_by : ℕ → List Note → List Marking
markings_by p ns = map (marking_by p) ns

-- a point's verdict
pub data Verdict : Type 0 where
  Hit : Verdict
  Undetermined : Doubted → Verdict
  Missed : Verdict

-- nothing that was reported is of the point
abbrev pub IsUnmarked : Design → Point → List Marking → Type 0
IsUnmarked d x [] = Unit {0}
IsUnmarked d x (n ∷ ns) = (IsKeyOf d x n.key → ⊥) × IsUnmarked d x ns

-- this doubt is the first of the point's that was reported
abbrev pub IsFirstDoubt : Design → Point → Doubted → List Marking → Type 0
IsFirstDoubt d x y ns =
    (before : List Marking) × (n : Marking) × (after : List Marking) × (ns ≡ before ++ n ∷ after) × IsUnmarked d x before × IsKeyOf d x n.key × (n.doubt ≡ Some y)

-- the point's verdict by what was reported: a hit above all, else the first doubt
abbrev pub IsVerdict : Design → Point → List Marking → Verdict → Type 0
IsVerdict d x ns Hit = IsHitMarked d x ns
IsVerdict d x ns (Undetermined y) = (IsHitMarked d x ns → ⊥) × IsFirstDoubt d x y ns
IsVerdict d x ns Missed = IsUnmarked d x ns
