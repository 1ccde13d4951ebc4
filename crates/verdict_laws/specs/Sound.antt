-- What the verdicts of a table say of the runs of a design that show a dump.
use Rattle.std.specs.Prelude.{List, All, ⊤}
use Rattle.coverage_db.specs.declared.db.Db.{Db}
use Rattle.coverage_db.specs.declared.db.DbInstance.{DbInstance}
use Rattle.coverage_db.specs.declared.db.DbPoint.{DbPoint}
use Rattle.coverage_db.specs.declared.verdict.DbVerdict.{DbVerdict}
use Rattle.coverage_db.specs.declared.verdict.DbVerdict.TheVariants.{Hit, Missed, Undetermined}
use Rattle.design_model.specs.Design.{Design}
use Rattle.design_model.specs.Points.{IsHit}
use Rattle.mark_laws.specs.cover_points.design_machines.state_machines.Drawn.{IsPointWith}
use Rattle.mark_laws.specs.cover_points.design_machines.state_machines.Machines.{StateMachines}
use Rattle.design_model.specs.Run.{IsRun, Run}
use Rattle.design_model.specs.Shows.{BoundDump, Shows}
use Rattle.design_model.specs.declared.point.Point.{Point}
use Rattle.event_machine.specs.Habit.{Habit}
use Rattle.table_laws.specs.Rows.{IsAddressOf}

-- the run is one of the design, with inputs that move by this habit, and shows the dump
pub record IsShownBy (d : Design) (h : Habit) (dump : BoundDump) (r : Run) : Type 0 where
  pub is_run : IsRun d h r
  pub shows : Shows d dump r

-- hit says that the point is hit, missed that it is not; undetermined says neither
abbrev pub Says : DbVerdict → Type 0 → Type 0
Says Hit hit = hit
Says Missed hit = hit → ⊥
Says (Undetermined time path) hit = ⊤

-- what the row says of the point that it names holds in every run that shows the dump
abbrev pub IsSoundRow : Design → Habit → BoundDump → StateMachines → List DbInstance → DbPoint → Type 0
IsSoundRow d h dump ms rows row =
    (x : Point) → IsPointWith d ms x → IsAddressOf d rows x row.address → (r : Run) → IsShownBy d h dump r → Says row.verdict (IsHit d dump r x)

-- each point marked hit is hit, and each point marked missed is never hit, in every run that shows the dump
abbrev pub IsSound : Design → Habit → BoundDump → StateMachines → Db → Type 0
IsSound d h dump ms db = All (IsSoundRow d h dump ms db.instances) db.points
