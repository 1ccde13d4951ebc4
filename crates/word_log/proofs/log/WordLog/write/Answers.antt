use Rattle.std.proofs.Common.{◌≡◌, ℕ, List, ap, get_or, length, set, subst, sym, true, ◌∙◌}
use Rattle.std.proofs.lemmas.List.{get_or_default}
use Rattle.memory_rebuild.specs.body_replay.Store.{keep_all, write_word}
use Rattle.memory_rebuild.specs.Words.{HaveWidth, IsIndex, StandsFor, count, word_after, word_at}
use Rattle.word_log.specs.declared.memory.StoredMemory.{StoredMemory}
use Rattle.word_log.specs.Keeps.{AfterWrite}
use Rattle.word_log.specs.Memories.{memory_in}
use Rattle.word_log.proofs.Keeping.{after_write}
use Rattle.word_log.proofs.Shapes.{all_under, memory_here, no_stored, sizes_same}
use Rattle.word_log.proofs.log.WordLog.write.Goals as goal
use Rattle.word_log.proofs.log.WordLog.write.Goals.{After-stored-1}

abbrev new : After-stored-1 → StoredMemory
new c = record { words = c.write.new.self; written = true }

was : (c : After-stored-1) → get_or c.args.memories.now c.args.memory c.index-memories-memory.result ≡ memory_in c.args.memories.now c.args.memory
was c = get_or_default c.args.memories.now c.args.memory c.index-memories-memory.result no_stored c.requires.place

after : (c : After-stored-1) → AfterWrite c.args.memory c.args.index.now c.args.memories.now (set c.args.memories.now c.args.memory (new c))
after c =
    let e = c.write.ensures in
    after_write c.args.memories.now c.args.memory c.args.index.now c.args.value.now.bits (new c) c.requires.place
    (e.shape ∙ ap (λ r. r.words.shape) (was c))
    (subst (λ r. length r.words.words ≡ count r.words.shape) (was c) e.size_before)
    (e.size ∙ ap (λ r. count r.words.shape) (was c))
    c.requires.width
    (subst (λ r. HaveWidth r.words) (was c) e.widths_before)
    (subst (λ (r : StoredMemory). (i : ℕ) → IsIndex r.words.shape i → word_at c.write.new.self i ≡ word_after r.words c.args.index.now c.args.value.now.bits true i) (was c) e.words)

pub returns-clause-fits : goal.returns-clause-fits
returns-clause-fits c =
    let rs : List StoredMemory = c.args.memories.now in
    let rs' : List StoredMemory = set rs c.args.memory (new c) in
    let fits = c.keep.ensures.fits in
    record {
      sizes = fits.sizes ∙ sym (sizes_same rs rs' (after c).shapes);
      done = all_under rs rs' c.keep.new.self.done (after c).shapes fits.done;
      undone = all_under rs rs' c.keep.new.self.undone (after c).shapes fits.undone;
    }

pub returns-clause-shapes : goal.returns-clause-shapes
returns-clause-shapes c = (after c).shapes

pub returns-clause-stands : goal.returns-clause-stands
returns-clause-stands c =
    λ d k m h.
    subst (λ r. StandsFor d (keep_all k (write_word d m c.args.index.now.signed c.args.index.now.bits c.args.value.now.bits)) m r.words) (sym (memory_here c.args.memories.now c.args.memory (new c) c.requires.place))
    (c.write.ensures.stands d k m (subst (λ r. StandsFor d k m r.words) (sym (was c)) h))

pub returns-clause-around : goal.returns-clause-around
returns-clause-around c = c.keep.ensures.around (set c.args.memories.now c.args.memory (new c)) (after c)
