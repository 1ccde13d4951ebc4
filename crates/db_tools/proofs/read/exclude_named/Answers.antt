use Rattle.std.proofs.Common.{◌∙◌, ap, length, sym}
use Rattle.coverage_db.specs.declared.db.Db.{Db}
use Rattle.db_tools.proofs.HeadLaws.{one_made}
use Rattle.db_tools.proofs.read.exclude_named.Goals as goal

pub returns-in-Ok-clause-named : goal.returns-in-Ok-clause-named
returns-in-Ok-clause-named c = (rw (c.new.ensures.table, c.new.ensures.marks) c.in-Ok.ensures.named, c.new.ensures.table)

pub returns-in-Ok-clause-only : goal.returns-in-Ok-clause-only
returns-in-Ok-clause-only c = λ e is table named.
    let marks = rw c.in-Ok.is at c.mark_points.ensures.only e.marks (is.long ∙ ap (λ (db : Db). length db.points) table) (rw table at named) in
    one_made e c.new.result (c.new.ensures.table ∙ sym table) (c.new.ensures.marks ∙ marks)

pub returns-in-Err-clause-only : goal.returns-in-Err-clause-only
returns-in-Err-clause-only c = λ e is table named. rw c.in-Err.is at c.mark_points.ensures.only e.marks (is.long ∙ ap (λ (db : Db). length db.points) table) (rw table at named)
