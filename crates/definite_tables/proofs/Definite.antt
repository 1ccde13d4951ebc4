-- A point for which nothing is in doubt is hit or missed in a reasoned table.
use Rattle.std.proofs.Common.{ℕ, get_or}
use Rattle.coverage_db.specs.declared.db.Db.{Db}
use Rattle.coverage_db.specs.declared.verdict.DbVerdict.{DbVerdict}
use Rattle.coverage_db.specs.declared.verdict.DbVerdict.TheVariants.{Hit, Missed, Undetermined}
use Rattle.design_model.proofs.Definite.{bound_point_law, definiteness_law}
use Rattle.design_model.specs.Design.{Design}
use Rattle.design_model.specs.Doubt.{IsInDoubt}
use Rattle.verdict_laws.specs.table_laws.point_table.cover_points.design_machines.state_machines.Drawn.{IsPointWith}
use Rattle.verdict_laws.specs.table_laws.point_table.cover_points.design_machines.state_machines.Machines.{StateMachines}
use Rattle.design_model.specs.Shows.{BoundDump}
use Rattle.design_model.specs.declared.point.Point.{Point}
use Rattle.event_machine.specs.Habit.{Habit}
use Rattle.verdict_laws.specs.Reasoned.{IsReasoned, IsReasonedVerdict}
use Rattle.definite_tables.specs.Definite.{HasDefiniteRows, DefiniteBlocksLaw, DefiniteSignalsLaw, IsDefiniteVerdict}

module _ (d : Design) (h : Habit) (dump : BoundDump) (x : Point) (certain : (t s : ℕ) → IsInDoubt d h dump x t s → ⊥) where
  definite_verdict : (v : DbVerdict) → IsReasonedVerdict d h dump x v → IsDefiniteVerdict v
  definite_verdict Hit reasoned = tt
  definite_verdict Missed reasoned = tt
  definite_verdict (Undetermined time path) reasoned = certain time reasoned.0.thing reasoned.0.in_doubt

  definite_rows : (ms : StateMachines) (db : Db) → IsReasoned d h dump ms db → IsPointWith d ms x → HasDefiniteRows d db x
  definite_rows ms db reasoned is_point k default within named =
      definite_verdict (get_or db.points k default).verdict (reasoned k default within x is_point named).reason

pub definite_blocks : DefiniteBlocksLaw
definite_blocks d h dump ms db p x binds reasoned definite is_point is_line block =
    definite_rows d h dump x (definiteness_law d h dump binds p definite x is_line block) ms db reasoned is_point

pub definite_signals : DefiniteSignalsLaw
definite_signals d h dump ms db s x reasoned is_point on is_signal bound =
    definite_rows d h dump x (bound_point_law d h dump x s on is_signal bound) ms db reasoned is_point
