use Rattle.std.proofs.Common.{ap, sym, ◌∙◌}
use Rattle.write_log.specs.Entries.{has}
use Rattle.word_log.proofs.SeenSets.{sizes_count}
use Rattle.word_log.proofs.seen.Seen.new.Goals as goal

pub invariant_of-result : goal.invariant_of-result
invariant_of-result c =
    record {
      count = c.in_ok-new.ensures.size ∙ sym (sizes_count _ c.args.memories.now c.in_ok-sets_of.ensures.sizes);
      unseen = λ i e. c.in_ok-sets_of.ensures.empty i;
    }

pub returns-clause-sizes : goal.returns-clause-sizes
returns-clause-sizes c = c.in_ok-sets_of.ensures.sizes

pub returns-clause-words : goal.returns-clause-words
returns-clause-words c = λ k. ap (λ xs. has xs k.1) (c.in_ok-sets_of.ensures.empty k.0)

pub returns-clause-memories : goal.returns-clause-memories
returns-clause-memories c = λ i. ap (λ xs. has xs i) c.in_ok-new.ensures.items
