use Rattle.std.proofs.Common.{sym, ◌∙◌, ap}
use Rattle.coverage_db.specs.Fields.{field_at}
use Rattle.coverage_db.proofs.Splitting.{first_field, last_field}
use Rattle.point_lookup.proofs.fields.Fields.next_field.Goals as goal

pub returns-in-Some-split_first : goal.returns-in-Some-split_first
returns-in-Some-split_first c =
    let split = rw c.in-Some-split_first.is at c.split_first.ensures in
    let left = rw c.in-Some.is at c.self.view_is in
    ap field_at (sym left) ∙ first_field c.in-Some.rest.now c.in-Some-split_first.field.now c.in-Some-split_first.others.now (sym split)

pub returns-in-None : goal.returns-in-None
returns-in-None c =
    let split = rw c.in-None.is at c.split_first.ensures in
    let left = rw c.in-Some.is at c.self.view_is in
    ap field_at (sym left) ∙ last_field c.in-Some.rest.now (sym split)
