use Rattle.worked_examples.proofs.Word.Followed.{written_example}
use Rattle.worked_examples.proofs.words.written_example.Goals as goal

pub returns : goal.returns
returns c = written_example
