use Rattle.coverage_db.proofs.Splitting.{end_of_none, end_of_some}
use Rattle.coverage_db.proofs.fields.Fields.end.Goals as goal
use Rattle.coverage_db.proofs.fields.Fields.end.Goals.{then-is_none, else-is_none}

pub returns : goal.returns
returns c = elim c.if-is_none.branch [
  | then-is_none w ↦ rw w.result-is (end_of_none c.self.inside.rest c.args.self.now c.self.view_is w.if-is_none.ensures)
  | else-is_none w ↦ rw w.result-is (end_of_some c.self.inside.rest c.args.self.now c.self.view_is w.if-is_none.ensures)
]
