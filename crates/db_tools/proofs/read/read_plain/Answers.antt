use Rattle.std.proofs.Common.{◌∙◌, ap, length, subst}
use Rattle.coverage_db.specs.Faults.{IsTheTable}
use Rattle.coverage_db.specs.declared.db.Db.{Db}
use Rattle.db_tools.proofs.HeadLaws.{no_marks, plain_same}
use Rattle.db_tools.proofs.read.read_plain.Goals as goal

pub returns-clause-plain : goal.returns-clause-plain
returns-clause-plain c = rw (c.new.ensures.table, c.new.ensures.marks, c.in_ok-marks.ensures) (no_marks c.in_ok-db.db c.len.result, c.in_ok-db.ensures.spelled)

pub returns-clause-only : goal.returns-clause-only
returns-clause-only c = λ e is none text.
    let table = subst (IsTheTable e.table) c.in_ok-db.was (c.read_db.ensures.only e.table is.table text c.requires) in
    plain_same e c.new.result c.len.result is none (c.new.ensures.table ∙ table) (c.new.ensures.marks ∙ c.in_ok-marks.ensures) (c.len.ensures ∙ ap (λ (db : Db). length db.points) table)
