use Rattle.selfrun_doubts.proofs.Words.{words_law}
use Rattle.selfrun_doubts.proofs.words_law.Goals as goal

pub returns : goal.returns
returns c = words_law
