-- The counts of the points that are not hit yet.
use Rattle.std.specs.Prelude.{◌≡◌, ℕ, List, slice_index_or}
use Rattle.point_marks.specs.declared.verdict.Verdict.{Verdict}
use Rattle.cover_marks.specs.Open.{open_of}
use Rattle.cover_marks.specs.declared.open.OpenPoints.{OpenPoints}

-- the owners are these, and each count is that of the points of an owner which have no hit
pub record IsOpenBy (os : List ℕ) (vs : List Verdict) (x : OpenPoints) : Type 0 where
  pub owners : x.owners.items ≡ os
  pub counts : (p : ℕ) → slice_index_or x.counts.items p 0 ≡ open_of p os vs
