-- Why a point is left undetermined, and which points are decided.
use Rattle.std.specs.Prelude.{◌≡◌, ℕ, List, All, ⊤}
use Rattle.coverage_db.specs.declared.db.Db.{Db}
use Rattle.coverage_db.specs.declared.db.DbPoint.{DbPoint}
use Rattle.coverage_db.specs.declared.verdict.DbVerdict.{DbVerdict}
use Rattle.coverage_db.specs.declared.verdict.DbVerdict.TheVariants.{Hit, Undetermined}
use Rattle.design_model.specs.Design.{Design, path_of}
use Rattle.design_model.specs.Doubt.{IsInDoubt}
use Rattle.design_model.specs.Open.{IsReached}
use Rattle.design_model.specs.Points.{IsHitAt}
use Rattle.mark_laws.specs.cover_points.design_machines.state_machines.Drawn.{IsPointWith}
use Rattle.mark_laws.specs.cover_points.design_machines.state_machines.Machines.{StateMachines}
use Rattle.design_model.specs.Run.{Run}
use Rattle.design_model.specs.Shows.{BoundDump, IsWindow}
use Rattle.design_model.specs.declared.point.Point.{Point}
use Rattle.event_machine.specs.Habit.{Habit}
use Rattle.table_laws.specs.Rows.{IsAddressOf}
use Rattle.verdict_laws.specs.Sound.{IsShownBy}

-- the time is of the window, and a signal or memory of this path is in doubt for the point then
pub record HasReason (d : Design) (h : Habit) (dump : BoundDump) (x : Point) (time : ℕ) (path : List ℕ) : Type 0 where
  pub thing : ℕ
  pub in_window : IsWindow dump time
  pub in_doubt : IsInDoubt d h dump x time thing
  pub path_is : path ≡ path_of d thing

-- nothing is in doubt for the point at the time
abbrev pub IsCertain : Design → Habit → BoundDump → Point → ℕ → Type 0
IsCertain d h dump x time = (thing : ℕ) → IsInDoubt d h dump x time thing → ⊥

-- no run that shows the dump hits the point at a window time at which nothing is in doubt for it
abbrev pub IsHitInDoubtOnly : Design → Habit → BoundDump → Point → Type 0
IsHitInDoubtOnly d h dump x = (r : Run) → IsShownBy d h dump r → (t : ℕ) → IsWindow dump t → IsCertain d h dump x t → IsHitAt d dump r x t → ⊥

-- an undetermined point has its reason, and is hit only where something is in doubt
abbrev pub IsReasonedVerdict : Design → Habit → BoundDump → Point → DbVerdict → Type 0
IsReasonedVerdict d h dump x (Undetermined time path) = HasReason d h dump x time path × IsHitInDoubtOnly d h dump x
IsReasonedVerdict d h dump x other = ⊤

-- some block reaches the point at some window time
abbrev pub IsReachedPoint : Design → Habit → BoundDump → Point → Type 0
IsReachedPoint d h dump x = (t : ℕ) × (p : ℕ) × IsReached d h dump t p x

-- what a row says of the point that it names is reasoned
pub record IsReasonedRow (d : Design) (h : Habit) (dump : BoundDump) (x : Point) (row : DbPoint) : Type 0 where
  pub reason : IsReasonedVerdict d h dump x row.verdict
  pub reached : IsReachedPoint d h dump x → row.verdict ≡ Hit

-- so it is with each row and each point of the design that it names
abbrev pub IsReasoned : Design → Habit → BoundDump → StateMachines → Db → Type 0
IsReasoned d h dump ms db =
    All (λ row. (x : Point) → IsPointWith d ms x → IsAddressOf d db.instances x row.address → IsReasonedRow d h dump x row) db.points
