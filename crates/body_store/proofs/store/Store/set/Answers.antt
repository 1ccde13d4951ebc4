use Rattle.std.proofs.Common.{ap, length, ◌∙◌}
use Rattle.design_model.specs.View.{design_view}
use Rattle.word_log.specs.Logs as w
use Rattle.write_log.specs.Logs.{reads_of}
use Rattle.body_store.specs.Scenes.{scene_with}
use Rattle.body_store.specs.Veils.{kept_memory}
use Rattle.body_store.proofs.Between.{whole_kept}
use Rattle.body_store.proofs.Holding.{still_none}
use Rattle.body_store.proofs.store.Store.set.Goals as goal

pub returns-clause-kept : goal.returns-clause-kept
returns-clause-kept c = λ k h.
    let x = c.args.self.now in
    let same = ap (λ q. q.bits) c.signed_as-value.ensures in
    let both = whole_kept (design_view x.design.now) k x.signals c.update.new.self (length x.memories.items) (kept_memory x.veils x.memories.items) c.args.signal c.args.certain c.requires.place h.signals h.memories c.signed_as-value.result c.args.value.now.bits (ap length same ∙ c.requires.width) same c.update.ensures in
    record { signals = both.0; memories = both.1 }

pub returns-clause-around : goal.returns-clause-around
returns-clause-around c = λ none.
    let x = c.args.self.now in
    still_none (scene_with x.design.now) (scene_with x.design.now) (reads_of x.signals) (reads_of c.update.new.self) (w.around x.words x.memories.items) (w.around x.words x.memories.items) x.log none
