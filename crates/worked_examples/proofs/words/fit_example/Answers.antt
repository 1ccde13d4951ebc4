use Rattle.worked_examples.proofs.Word.Compared.{fit_example}
use Rattle.worked_examples.proofs.words.fit_example.Goals as goal

pub returns : goal.returns
returns c = fit_example
