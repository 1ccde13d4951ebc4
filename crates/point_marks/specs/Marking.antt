-- How points are marked, in order, and the verdicts that follow.
use Rattle.std.specs.Prelude.{◌≡◌, ◌≢◌, ◌<◌, ℕ, List, ◌∷◌, ◌++◌, Option, Some, None, length, slice_index_or, All, Contains}
use Rattle.point_marks.specs.declared.verdict.Doubt.{Doubt}
use Rattle.point_marks.specs.declared.verdict.Verdict.{Verdict}
use Rattle.point_marks.specs.declared.verdict.Verdict.TheVariants.{Hit, Missed, Undetermined}

-- a mark of the point with a number: that it was hit, or a doubt
pub record Marking : Type 0 where
  pub point : ℕ
  pub doubt : Option Doubt

-- the point was hit
abbrev pub hit_of : ℕ → Marking
hit_of p = record { point = p; doubt = None }

-- this doubt left the point open
abbrev pub doubt_of : ℕ → Doubt → Marking
doubt_of p y = record { point = p; doubt = Some y }

-- this is the first marking of the point
pub record IsFirst (markings : List Marking) (n : Marking) : Type 0 where
  pub before : List Marking
  pub after : List Marking
  pub is : markings ≡ before ++ n ∷ after
  pub others : All (λ m. m.point ≢ n.point) before

-- the verdict of a point by its markings: a hit above all, else the first doubt, else missed
abbrev pub IsVerdict : List Marking → ℕ → Verdict → Type 0
IsVerdict markings p Hit = Contains markings (hit_of p)
IsVerdict markings p (Undetermined y) = (¬ Contains markings (hit_of p)) × IsFirst markings (doubt_of p y)
IsVerdict markings p Missed = All (λ n. n.point ≢ p) markings

-- the verdicts are those by these markings
abbrev pub IsMarked : List Marking → List Verdict → Type 0
IsMarked markings marks = (p : ℕ) → p < length marks → IsVerdict markings p (slice_index_or marks p Missed)

-- the verdict after a doubt: the first doubt is kept, and a hit
abbrev pub with_doubt : Doubt → Verdict → Verdict
with_doubt y Hit = Hit
with_doubt y Missed = Undetermined y
with_doubt y (Undetermined x) = Undetermined x
