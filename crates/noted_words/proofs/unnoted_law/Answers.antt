use Rattle.noted_words.proofs.Unnoted.{unnoted}
use Rattle.noted_words.proofs.unnoted_law.Goals as goal

pub returns : goal.returns
returns c = unnoted
