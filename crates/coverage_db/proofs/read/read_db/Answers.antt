use Rattle.std.proofs.Common.{arith}
use Rattle.std.proofs.lemmas.Result.{IfOk-weaker}
use Rattle.coverage_db.proofs.ReadingLaws.{returned_whole, returned_only, returned_fault}
use Rattle.coverage_db.proofs.read.read_db.Goals as goal

pub returns-clause-table : goal.returns-clause-table
returns-clause-table c = IfOk-weaker c.read_lines.result _ _ (λ db w. w.table) (returned_whole c.args.alloc c.args.bytes.now c.read_lines.result (omega arith) c.read_lines.ensures)

pub returns-clause-spelled : goal.returns-clause-spelled
returns-clause-spelled c = IfOk-weaker c.read_lines.result _ _ (λ db w. w.spelled) (returned_whole c.args.alloc c.args.bytes.now c.read_lines.result (omega arith) c.read_lines.ensures)

pub returns-clause-only : goal.returns-clause-only
returns-clause-only c = λ db table spelled small. returned_only c.args.alloc c.args.bytes.now c.read_lines.result c.read_lines.ensures db table spelled

pub returns-clause-fault : goal.returns-clause-fault
returns-clause-fault c = returned_fault c.args.alloc c.args.bytes.now c.read_lines.result (omega arith) c.read_lines.ensures
