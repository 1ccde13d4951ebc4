use Rattle.worked_examples.proofs.Word.Followed.{unwritten_example}
use Rattle.worked_examples.proofs.words.unwritten_example.Goals as goal

pub returns : goal.returns
returns c = unwritten_example
