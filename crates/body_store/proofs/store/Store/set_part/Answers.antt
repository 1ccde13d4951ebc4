use Rattle.std.proofs.Common.{length}
use Rattle.design_model.specs.View.{design_view}
use Rattle.word_log.specs.Logs as w
use Rattle.write_log.specs.Logs.{reads_of}
use Rattle.body_store.specs.Scenes.{scene_with}
use Rattle.body_store.specs.Veils.{kept_memory}
use Rattle.body_store.proofs.Between.{part_kept}
use Rattle.body_store.proofs.Holding.{still_none}
use Rattle.body_store.proofs.store.Store.set_part.Goals as goal

pub returns-clause-kept : goal.returns-clause-kept
returns-clause-kept c = λ k h.
    let x = c.args.self.now in
    let both = part_kept (design_view x.design.now) k x.signals c.update_part.new.self (length x.memories.items) (kept_memory x.veils x.memories.items) c.args.signal c.args.certain c.requires.place h.signals h.memories c.args.low.now c.args.part.now c.requires.width c.update_part.ensures in
    record { signals = both.0; memories = both.1 }

pub returns-clause-around : goal.returns-clause-around
returns-clause-around c = λ none.
    let x = c.args.self.now in
    still_none (scene_with x.design.now) (scene_with x.design.now) (reads_of x.signals) (reads_of c.update_part.new.self) (w.around x.words x.memories.items) (w.around x.words x.memories.items) x.log none
