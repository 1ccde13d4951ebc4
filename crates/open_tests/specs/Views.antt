-- The plain tree of an else branch.
use Rattle.std.specs.Prelude.{Option, Some, None}
use Rattle.assignments.specs.design_model.Tree as t
use Rattle.assignments.specs.design_model.View.{stmt_view}
use Rattle.assignments.specs.design_model.declared.tree.Stmt.{Stmt}

-- the else branch, if there is one
abbrev pub else_view : Option Stmt → t.Stmts
else_view None = t.no_stmts
else_view (Some s) = t.a_stmt (stmt_view s) t.no_stmts
