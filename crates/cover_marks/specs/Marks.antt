-- The marks of the points of a list.
use Rattle.std.specs.Prelude.{◌≡◌, length}
use Rattle.cover_points.specs.Listed.{points_of}
use Rattle.cover_points.specs.declared.listing.Points.{Points}
use Rattle.cover_marks.specs.Counted.{IsOpenBy}
use Rattle.cover_marks.specs.Index.{IsIndexOf}
use Rattle.cover_marks.specs.Owners.{owners_of}
use Rattle.cover_marks.specs.declared.marks.Marks.{Marks}

-- the marks are those of these points: a verdict for each, the number of the point of each visit, and how many of each process are not hit
pub record AreMarksOf (ps : Points) (m : Marks) : Type 0 where
  pub index : IsIndexOf ps m.index
  pub count : length m.verdicts ≡ length (points_of ps)
  pub counts : IsOpenBy (owners_of ps) m.verdicts m.open_points
