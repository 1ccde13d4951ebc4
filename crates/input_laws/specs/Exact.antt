-- What a table says of a design of inputs under a dump.
use Rattle.std.specs.Prelude.{ℕ, List, All}
use Rattle.coverage_db.specs.declared.db.Db.{Db}
use Rattle.coverage_db.specs.declared.db.DbInstance.{DbInstance}
use Rattle.coverage_db.specs.declared.db.DbPoint.{DbPoint}
use Rattle.coverage_db.specs.declared.verdict.DbVerdict.{DbVerdict}
use Rattle.coverage_db.specs.declared.verdict.DbVerdict.TheVariants.{Hit, Missed, Undetermined}
use Rattle.design_model.specs.Design.{Design as Tree}
use Rattle.design_model.specs.Lawful.{IsLawfulDesign}
use Rattle.design_model.specs.Points.{toggle_cell}
use Rattle.verdict_laws.specs.table_laws.point_table.cover_points.design_machines.state_machines.Drawn.{IsPointWith}
use Rattle.verdict_laws.specs.table_laws.point_table.cover_points.design_machines.state_machines.Machines.{no_machines}
use Rattle.design_model.specs.Shows.{BoundDump}
use Rattle.design_model.specs.StillLaw.{BindsInputs}
use Rattle.design_model.specs.View.{design_view}
use Rattle.design_model.specs.declared.design.Design.{Design}
use Rattle.design_model.specs.declared.point.Point.{Point}
use Rattle.design_model.specs.declared.point.Point.TheVariants.{Toggle as toggle_point}
use Rattle.event_machine.specs.Habit.{Free}
use Rattle.shown_dumps.specs.Rounds.{ByLastRounds}
use Rattle.shown_dumps.specs.Shown.{bound_dump}
use Rattle.vcd_reader.specs.Dump.{Dump, IsDump}
use Rattle.verdict_laws.specs.Reasoned.{IsReasoned}
use Rattle.verdict_laws.specs.Sound.{IsSound}
use Rattle.verdict_laws.specs.table_laws.Rows.{IsAddressOf, ListsPoints}
use Rattle.input_laws.specs.Inputs.{HasInputsAlone}
use Rattle.input_laws.specs.Toggled.{TogglesOver}

-- the verdict says whether the point is hit, and is not undetermined
abbrev pub Decides : DbVerdict → Type 0 → Type 0
Decides Hit hit = hit
Decides Missed hit = hit → ⊥
Decides (Undetermined time path) hit = ⊥

-- the point is a toggle point, and the verdict says whether the dump toggles its bit over a step of the window
abbrev pub IsExactVerdict : Tree → BoundDump → Point → DbVerdict → Type 0
IsExactVerdict d dump (toggle_point s i rise) verdict = Decides verdict (TogglesOver dump (toggle_cell d s i) rise)
IsExactVerdict d dump other verdict = ⊥

-- the row names a point of the design, and its verdict is exact for each that it names
pub record IsExactRow (d : Tree) (dump : BoundDump) (rows : List DbInstance) (row : DbPoint) : Type 0 where
  pub point : Point
  pub is_point : IsPointWith d no_machines point
  pub named : IsAddressOf d rows point row.address
  pub exact : (x : Point) → IsPointWith d no_machines x → IsAddressOf d rows x row.address → IsExactVerdict d dump x row.verdict

-- each row of the table is exact
abbrev pub IsExact : Tree → BoundDump → Db → Type 0
IsExact d dump db = All (IsExactRow d dump db.instances) db.points

-- Exact law: of a design of inputs that a dump binds, a table that lists its points, is sound and reasoned is exact.
abbrev pub ExactLaw : Type 0
ExactLaw =
    (design : Design) (text instance : List ℕ) (dump : Dump) (db : Db) → HasInputsAlone (design_view design) → IsLawfulDesign (design_view design)
    → IsDump text dump → BindsInputs (design_view design) (bound_dump design dump instance) → ListsPoints (design_view design) no_machines db
    → ByLastRounds (design_view design) (bound_dump design dump instance) (λ said. IsSound (design_view design) Free said no_machines db)
    → ByLastRounds (design_view design) (bound_dump design dump instance) (λ said. IsReasoned (design_view design) Free said no_machines db)
    → ByLastRounds (design_view design) (bound_dump design dump instance) (λ said. IsExact (design_view design) said db)
