-- Which points a reasoned table leaves not undetermined.
use Rattle.std.specs.Prelude.{◌≡◌, ℕ, true, All, ⊤}
use Rattle.coverage_db.specs.declared.db.Db.{Db}
use Rattle.coverage_db.specs.declared.verdict.DbVerdict.{DbVerdict}
use Rattle.coverage_db.specs.declared.verdict.DbVerdict.TheVariants.{Undetermined}
use Rattle.design_model.specs.Clear.{IsSignal}
use Rattle.design_model.specs.Design.{Design}
use Rattle.design_model.specs.Doubt.{IsPointOn}
use Rattle.design_model.specs.Laws.{IsDefinite, IsLineOrLogic}
use Rattle.design_model.specs.Points.{IsBlock}
use Rattle.verdict_laws.specs.table_laws.point_table.cover_points.design_machines.state_machines.Drawn.{IsPointWith}
use Rattle.verdict_laws.specs.table_laws.point_table.cover_points.design_machines.state_machines.Machines.{StateMachines}
use Rattle.design_model.specs.Shows.{BindsSignals, BoundDump}
use Rattle.design_model.specs.declared.point.Point.{Point}
use Rattle.event_machine.specs.Habit.{Habit}
use Rattle.verdict_laws.specs.Reasoned.{IsReasoned}
use Rattle.verdict_laws.specs.table_laws.Rows.{IsAddressOf}

-- the verdict is hit or missed
abbrev pub IsDefiniteVerdict : DbVerdict → Type 0
IsDefiniteVerdict (Undetermined time path) = ⊥
IsDefiniteVerdict other = ⊤

-- each row of the table that names the point is hit or missed
abbrev pub HasDefiniteRows : Design → Db → Point → Type 0
HasDefiniteRows d db x = All (λ row. IsAddressOf d db.instances x row.address → IsDefiniteVerdict row.verdict) db.points

-- Definite-blocks law: in a reasoned table each line and each case of a clocked block is hit or missed that is clean whenever it can wake, where the dump has all that the
-- block mentions and of that only its trigger may be early.
abbrev pub DefiniteBlocksLaw : Type 0
DefiniteBlocksLaw =
    (d : Design) (h : Habit) (dump : BoundDump) (ms : StateMachines) (db : Db) (p : ℕ) (x : Point) → BindsSignals d dump → IsReasoned d h dump ms db
    → IsDefinite d h dump p → IsPointWith d ms x → IsLineOrLogic x → IsBlock d x p → HasDefiniteRows d db x

-- Definite-signals law: in a reasoned table each toggle, state and arc of a signal that the dump has is hit or missed.
abbrev pub DefiniteSignalsLaw : Type 0
DefiniteSignalsLaw =
    (d : Design) (h : Habit) (dump : BoundDump) (ms : StateMachines) (db : Db) (s : ℕ) (x : Point) → IsReasoned d h dump ms db → IsPointWith d ms x
    → IsPointOn x s → IsSignal d s → dump.bound s ≡ true → HasDefiniteRows d db x
