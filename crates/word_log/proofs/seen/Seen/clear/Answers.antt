use Rattle.std.proofs.Common.{ap, sym, ◌∙◌}
use Rattle.write_log.specs.Entries.{has}
use Rattle.word_log.proofs.SeenSets.{all_cleared, sizes_length}
use Rattle.word_log.proofs.seen.Seen.clear.Goals as goal

pub invariant_of-self : goal.invariant_of-self
invariant_of-self c =
    record {
      count = c.clear.ensures.size ∙ c.self.invariant.count ∙ sym (sizes_length c.self.inside.words.items c.clear_all.new.sets.items c.clear_all.ensures.sizes);
      unseen = λ i e. all_cleared c.self.inside.memories c.self.inside.words.items c.clear_all.new.sets.items c.self.invariant c.clear_all.ensures.cleared i;
    }

pub returns-clause-words : goal.returns-clause-words
returns-clause-words c = λ k. ap (λ xs. has xs k.1) (all_cleared c.self.inside.memories c.self.inside.words.items c.clear_all.new.sets.items c.self.invariant c.clear_all.ensures.cleared k.0)
