use Rattle.std.proofs.Common.{sym, ◌∙◌}
use Rattle.verilog_parser.proofs.Statements.{null_reads, task_reads}
use Rattle.verilog_parser.proofs.statement.task_or_empty.Goals as goal

pub returns-then-not-sees_task : goal.returns-then-not-sees_task
returns-then-not-sees_task c = rw (null_reads c.args.body c.args.depth c.args.cursor.now (sym c.sees_task.ensures ∙ c.if-not-sees_task.true)) c.empty.ensures

pub returns : goal.returns
returns c = rw (task_reads c.args.body c.args.depth c.args.cursor.now _ _ (sym c.sees_task.ensures ∙ c.if-not-sees_task.false) c.in_ok-word.ensures) c.task.ensures
