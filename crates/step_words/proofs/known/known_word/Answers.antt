use Rattle.std.proofs.Common.{arith}
use Rattle.step_words.proofs.Indexes.{word_known}
use Rattle.step_words.proofs.known.known_word.Goals as goal

pub returns : goal.returns
returns c = λ d k h. word_known d k c.args.store.now c.args.memory c.args.index c.kept_word.result c.index_of.result c.kept_word.ensures c.index_of.ensures (omega arith) c.requires.index h
