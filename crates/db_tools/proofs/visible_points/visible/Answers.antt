use Rattle.std.proofs.Common.{subst, sym}
use Rattle.std.proofs.lemmas.Result.{IfOk-weaker}
use Rattle.coverage_db.specs.Table.{IsTable}
use Rattle.db_tools.proofs.VisibleTable.{visible_table}
use Rattle.db_tools.proofs.visible_points.visible.Goals as goal

pub returns-clause-value : goal.returns-clause-value
returns-clause-value c = rw (c.db.ensures.value, c.marks.ensures.value) at c.visible_table.ensures

pub returns-clause-table : goal.returns-clause-table
returns-clause-table c =
    IfOk-weaker c.visible_table.result _ _ (λ copy is. subst IsTable (sym is) (visible_table c.db.result.now c.marks.result.now c.db.ensures.table)) c.visible_table.ensures
