-- What visits a coverage point.
use Rattle.std.specs.Prelude.{◌≡◌, ◌<◌, ◌≤◌, ◌+◌, ℕ, true, false, length, slice_index_or, Option, Some, None}
use Rattle.design_model.specs.declared.point.Point.{Point}
use Rattle.design_model.specs.declared.point.Point.TheVariants.{Line as line_point, Logic as logic_point, Toggle as toggle_point, Word as word_point}
use Rattle.std.specs.List.{All}
use Rattle.design_machines.specs.declared.machine.Machine.{Machine}
use Rattle.design_model.specs.Design.{In}
use Rattle.cover_points.specs.Listed.{IsPlaced, points_of}
use Rattle.cover_points.specs.declared.machine_point.MachinePoint.{MachinePoint}
use Rattle.cover_points.specs.declared.machine_point.MachinePoint.TheVariants.{State}
use Rattle.cover_points.specs.declared.listing.Points.{Points}
use Rattle.cover_points.specs.declared.visit.Visit.{Visit}
use Rattle.cover_points.specs.declared.visit.Visit.TheVariants.{Line, Node, Toggle, Read, Write}

-- the visit of a point; a word is read or written by any process
abbrev pub visit_of : Point → Option Visit
visit_of (line_point p n at w) = Some (Line p n)
visit_of (logic_point p n at op c) = Some (Node p n c)
visit_of (toggle_point s i rise) = Some (Toggle s i rise)
visit_of (word_point m i true) = Some (Write m i)
visit_of (word_point m i false) = Some (Read m i)
visit_of _ = None

-- what a list gives past its end
abbrev pub no_point : Point
no_point = word_point 0 0 false

-- the point with a number, counted from 0
abbrev pub point_at : Points → ℕ → Point
point_at ps k = slice_index_or (points_of ps) k no_point

-- the visit is of the point with this number
abbrev pub IsVisitOf : Points → ℕ → Visit → Type 0
IsVisitOf ps k v = (k < length (points_of ps)) × (visit_of (point_at ps k) ≡ Some v)

-- no two points have one visit
abbrev pub AreApart : Points → Type 0
AreApart ps = (j k : ℕ) (v : Visit) → IsVisitOf ps j v → IsVisitOf ps k v → j ≡ k

-- no point is listed twice
abbrev pub AreOnce : Points → Type 0
AreOnce ps = (j k : ℕ) → j < length (points_of ps) → k < length (points_of ps) → point_at ps j ≡ point_at ps k → j ≡ k

-- the machine points are states and arcs of the machines, which have at most 64 states each
pub record ArePlaced (ps : Points) : Type 0 where
  pub placed : (p : MachinePoint) → In p ps.states.items → IsPlaced ps.machines.items p
  pub counted : All (λ (x : Machine). length x.names ≤ 64) ps.machines.items

-- the point with this number is this state or arc
abbrev pub IsMachinePointAt : Points → ℕ → MachinePoint → Type 0
IsMachinePointAt ps k p =
    (j : ℕ) × (j < length ps.states.items) × (slice_index_or ps.states.items j (State 0 0) ≡ p) × (k ≡ length ps.lines.items + length ps.nodes.items + length ps.toggles.items + j)
