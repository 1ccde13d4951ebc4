use Rattle.std.proofs.Common.{length, subst, sym}
use Rattle.design_model.specs.View.{design_view}
use Rattle.word_log.specs.memory_rebuild.Words.{StandsFor}
use Rattle.body_store.specs.Veils.{kept_memory}
use Rattle.body_store.proofs.Between.{held_words}
use Rattle.body_store.proofs.store.Store.kept_word.Goals as goal

pub returns : goal.returns
returns c = λ k e h.
    let x = c.args.self.now in
    let d = design_view x.design.now in
    c.read.ensures.stands d k c.args.memory (subst (λ r. StandsFor d k c.args.memory r) (sym c.kept_words.ensures) (held_words d k e (length x.memories.items) (kept_memory x.veils x.memories.items) c.args.memory c.requires h.memories))
