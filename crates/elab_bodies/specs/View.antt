-- The plain trees of the parts of statements.
use Rattle.std.specs.Prelude.{List, [], ◌∷◌, Option, Some, None}
use Rattle.cov_host.specs.declared.place.Place.{Place}
use Rattle.design_model.specs.Tree as t
use Rattle.design_model.specs.View.{Arm, stmt_form_step, arm_step, stmt_step, stmt_view}
use Rattle.design_model.specs.declared.tree.CaseArm.{CaseArm, fold-CaseArm}
use Rattle.design_model.specs.declared.tree.Stmt.{Stmt}
use Rattle.verilog_tree.specs.Tree as v
use Rattle.verilog_tree.specs.View.{statement_view}
use Rattle.verilog_tree.specs.declared.statement.Statement.{Statement}

-- the plain arm of an arm of the flat design
abbrev pub arm_view : CaseArm → Arm
arm_view = fold-CaseArm (Place → t.Stmt) Arm t.Stmt stmt_form_step arm_step stmt_step

-- the else branch of the flat design, if there is one
abbrev pub other_view : Option Stmt → t.Stmts
other_view None = t.no_stmts
other_view (Some s) = t.a_stmt (stmt_view s) t.no_stmts

-- the else statement, if there is one
abbrev pub else_view : Option Statement → v.Statements
else_view None = v.no_statements
else_view (Some s) = v.a_statement (statement_view s) v.no_statements

-- none, or the one
abbrev pub listed : {A : Type 0} → Option A → List A
listed None = []
listed (Some x) = x ∷ []
