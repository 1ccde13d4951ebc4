use Rattle.signal_marks.proofs.Indexes.{index_names}
use Rattle.signal_marks.proofs.laws.index_law.Goals as goal

pub returns : goal.returns
returns c = index_names
