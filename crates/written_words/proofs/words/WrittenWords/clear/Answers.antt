use Rattle.written_words.proofs.Adding.{all_emptied}
use Rattle.written_words.proofs.words.WrittenWords.clear.Goals as goal

pub invariant_of-self : goal.invariant_of-self
invariant_of-self c =
    all_emptied c.self.inside.ranges.items c.self.inside.memories c.self.inside.words.items c.clear_all.new.sets.items c.clear_all.ensures.cleared c.self.invariant c.clear.new.self c.clear.ensures.items c.clear.ensures.size c.clear_all.ensures.sizes
