-- The plain trees of the parts of processes.
use Rattle.std.specs.Prelude.{Option, Some, None}
use Rattle.cov_host.specs.declared.place.Place.{Place}
use Rattle.design_model.specs.Tree as t
use Rattle.design_model.specs.View.{Arm, arm_step, stmt_form_step, stmt_step, stmt_view}
use Rattle.design_model.specs.declared.tree.CaseArm.{CaseArm, fold-CaseArm}
use Rattle.design_model.specs.declared.tree.Stmt.{Stmt}
use Rattle.design_model.specs.declared.tree.Term.{Term}

-- what a term is besides its form
abbrev pub head_of : Term → t.Head
head_of x = record { place = x.place; width = x.width; signed = x.signed; node = x.node }

-- the plain arm of an arm
abbrev pub arm_view : CaseArm → Arm
arm_view = fold-CaseArm (Place → t.Stmt) Arm t.Stmt stmt_form_step arm_step stmt_step

-- the else branch, if there is one
abbrev pub other_view : Option Stmt → t.Stmts
other_view None = t.no_stmts
other_view (Some s) = t.a_stmt (stmt_view s) t.no_stmts
