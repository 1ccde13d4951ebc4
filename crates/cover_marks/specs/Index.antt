-- The tables that give the number of the point of a visit.
use Rattle.std.specs.Prelude.{◌≡◌, ℕ, List, Bool, true, false, not}
use Rattle.number_tables.specs.Tables.{IsNumberOf}
use Rattle.number_tables.specs.declared.table.NumberTable.{NumberTable}
use Rattle.cover_points.specs.point_words.declared.node_case.NodeCase.{NodeCase}
use Rattle.cover_points.specs.Visits.{IsMachinePointAt, IsVisitOf}
use Rattle.cover_points.specs.declared.machine_point.MachinePoint.{MachinePoint}
use Rattle.cover_points.specs.declared.listing.Points.{Points}
use Rattle.cover_points.specs.declared.visit.Visit.TheVariants.{Line, Node, Toggle, Read, Write}
use Rattle.cover_marks.specs.Slots.{index_slot, line_slot, machine_slot, node_slot, state_counts}
use Rattle.cover_marks.specs.declared.index.PointIndex.{PointIndex}

-- the table has the number of each line point
abbrev pub FindsLines : Points → NumberTable → Type 0
FindsLines ps t = (k p n : ℕ) → IsVisitOf ps k (Line p n) → IsNumberOf t (line_slot p n) k

-- of each case of a node
abbrev pub FindsNodes : Points → NumberTable → Type 0
FindsNodes ps t = (k p n : ℕ) (c : NodeCase) → IsVisitOf ps k (Node p n c) → IsNumberOf t (node_slot p n c) k

-- of each toggle of a bit; from 1 to 0 is the second of the two
abbrev pub FindsToggles : Points → NumberTable → Type 0
FindsToggles ps t = (k s i : ℕ) (rise : Bool) → IsVisitOf ps k (Toggle s i rise) → IsNumberOf t (index_slot s i (not rise)) k

-- of each read and each write of a word
abbrev pub FindsWords : Points → NumberTable → Type 0
FindsWords ps t = (k m i : ℕ) → (IsVisitOf ps k (Read m i) → IsNumberOf t (index_slot m i false) k) × (IsVisitOf ps k (Write m i) → IsNumberOf t (index_slot m i true) k)

-- of each state and arc, where the machines have these counts of states
abbrev pub FindsStates : Points → List ℕ → NumberTable → Type 0
FindsStates ps counts t = (k : ℕ) (p : MachinePoint) → IsMachinePointAt ps k p → IsNumberOf t (machine_slot counts p) k

-- the tables are those of these points
pub record IsIndexOf (ps : Points) (x : PointIndex) : Type 0 where
  pub lines : FindsLines ps x.lines
  pub nodes : FindsNodes ps x.nodes
  pub toggles : FindsToggles ps x.toggles
  pub counts : x.counts.items ≡ state_counts ps.machines.items
  pub states : FindsStates ps x.counts.items x.states
  pub words : FindsWords ps x.words
