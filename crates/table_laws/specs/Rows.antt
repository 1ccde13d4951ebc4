-- Which point of a design a row of a table names.
use Rattle.std.specs.Prelude.{◌≡◌, ◌<◌, ◌↔◌, ℕ, List, Contains, length, map, slice_index_or}
use Rattle.coverage_db.specs.declared.address.Address.{Address}
use Rattle.coverage_db.specs.declared.address.Subject.{Subject}
use Rattle.coverage_db.specs.declared.address.Subject.TheVariants as subject
use Rattle.coverage_db.specs.declared.db.Db.{Db}
use Rattle.coverage_db.specs.declared.db.DbInstance.{DbInstance}
use Rattle.point_table.specs.cover_points.Listed.{points_of}
use Rattle.point_table.specs.cover_points.Visits.{point_at}
use Rattle.point_table.specs.cover_points.declared.listing.Points.{Points}
use Rattle.design_model.specs.Design.{Design, memory_at, process_at, signal_at}
use Rattle.design_model.specs.Lawful.{instance_of}
use Rattle.point_table.specs.cover_points.design_machines.state_machines.Drawn.{IsPointWith}
use Rattle.point_table.specs.cover_points.design_machines.state_machines.Machines.{StateMachines}
use Rattle.design_model.specs.declared.point.Point.{Point}
use Rattle.design_model.specs.declared.point.Point.TheVariants.{Line as line_point, Logic as logic_point, Toggle as toggle_point, State as state_point, Arc as arc_point, Word as word_point}
use Rattle.point_table.specs.Addresses.{index_if, source_line}
use Rattle.point_table.specs.Rows.{row_at}
use Rattle.point_table.specs.Verdicts.{no_row}
use Rattle.point_words.specs.Words.{operator_text}
use Rattle.point_words.specs.declared.operator.Operator.{Operator}

-- the instance of a point
abbrev pub point_instance : Design → Point → ℕ
point_instance d (line_point p n at w) = instance_of (process_at d p)
point_instance d (logic_point p n at op c) = instance_of (process_at d p)
point_instance d (toggle_point s i rise) = (signal_at d s).instance
point_instance d (state_point i name s state x) = i
point_instance d (arc_point i name s from to x y) = i
point_instance d (word_point m i write) = (memory_at d m).instance

-- what a row says of a point beside its instance
abbrev pub IsSubjectOf : Design → Point → Subject → Type 0
IsSubjectOf d (line_point p n at w) s = s ≡ subject.Line n (source_line at) w
IsSubjectOf d (logic_point p n at op c) s = (o : Operator) × (operator_text o ≡ op) × (s ≡ subject.Logic n (source_line at) o c)
IsSubjectOf d (toggle_point x i rise) s = s ≡ subject.Toggle (signal_at d x).name (index_if (signal_at d x).ranged i) rise
IsSubjectOf d (state_point i name x state v) s = s ≡ subject.State name state
IsSubjectOf d (arc_point i name x from to u v) s = s ≡ subject.Arc name from to
IsSubjectOf d (word_point m i write) s = s ≡ subject.Word (memory_at d m).name i write

-- the address names the point, in a table with these instances
pub record IsAddressOf (d : Design) (rows : List DbInstance) (x : Point) (a : Address) : Type 0 where
  pub place : a.instance < length rows
  pub instance : slice_index_or rows a.instance (row_at d.instances 0) ≡ row_at d.instances (point_instance d x)
  pub subject : IsSubjectOf d x a.subject

-- the table has a row for each point of the list, which names it, in order
pub record ListsEach (d : Design) (ps : Points) (db : Db) : Type 0 where
  pub count : length db.points ≡ length (points_of ps)
  pub each : (k : ℕ) → k < length db.points → IsAddressOf d db.instances (point_at ps k) (slice_index_or db.points k no_row).address

-- the addresses of the table are those of the points of the design with these machines
abbrev pub ListsPoints : Design → StateMachines → Db → Type 0
ListsPoints d ms db = (a : Address) → Contains (map (λ p. p.address) db.points) a ↔ ((x : Point) × IsPointWith d ms x × IsAddressOf d db.instances x a)
