use Rattle.std.proofs.Common.{subst}
use Rattle.written_words.specs.Written.{AreWritten, WrittenState}
use Rattle.written_words.proofs.words.WrittenWords.memory_count.Goals as goal

pub returns-clause-sets : goal.returns-clause-sets
returns-clause-sets c = subst (λ (w : WrittenState). AreWritten w.ranges w.memories w.words) c.self.view_is c.self.invariant
