-- The processes of line and node points.
use Rattle.std.specs.Prelude.{◌≡◌, ◌++◌, ℕ, List, map, slice_index_or}
use Rattle.point_marks.specs.declared.verdict.Verdict.{Verdict}
use Rattle.point_marks.specs.declared.verdict.Verdict.TheVariants.{Hit, Missed}
use Rattle.cover_points.specs.point_words.declared.node_case.NodeCase.{NodeCase}
use Rattle.cover_points.specs.text_points.declared.points.LinePoint.{LinePoint}
use Rattle.cover_points.specs.text_points.declared.points.NodePoint.{NodePoint}
use Rattle.cover_points.specs.Visits.{IsVisitOf}
use Rattle.cover_points.specs.declared.listing.Points.{Points}
use Rattle.cover_points.specs.declared.visit.Visit.TheVariants.{Line, Node}

abbrev pub line_owners : List LinePoint → List ℕ
line_owners xs = map (λ x. x.process) xs

abbrev pub node_owners : List NodePoint → List ℕ
node_owners xs = map (λ x. x.process) xs

-- the process of each line and node point, by the number of the point; the points of other kinds come after them
abbrev pub owners_of : Points → List ℕ
owners_of ps = line_owners ps.lines.items ++ node_owners ps.nodes.items

-- each line and node point of the process is hit
pub record IsSettled (ps : Points) (vs : List Verdict) (p : ℕ) : Type 0 where
  pub lines : (k n : ℕ) → IsVisitOf ps k (Line p n) → slice_index_or vs k Missed ≡ Hit
  pub nodes : (k n : ℕ) (c : NodeCase) → IsVisitOf ps k (Node p n c) → slice_index_or vs k Missed ≡ Hit
