use Rattle.worked_examples.proofs.Word.Followed.{range_example}
use Rattle.worked_examples.proofs.words.range_example.Goals as goal

pub returns : goal.returns
returns c = range_example
