use Rattle.coverage_db.proofs.ReadingLaws.{one_table}
use Rattle.coverage_db.proofs.laws.one_text.Goals as goal

pub returns : goal.returns
returns c = λ a b text p q spelled same. one_table c.args._alloc a b text p q spelled same
