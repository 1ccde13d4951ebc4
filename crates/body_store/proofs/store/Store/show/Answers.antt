use Rattle.std.proofs.Common.{ap}
use Rattle.write_log.specs.value_store.Signals.{read_at}
use Rattle.word_log.specs.Logs as w
use Rattle.write_log.specs.Logs.{reads_of}
use Rattle.body_store.specs.Scenes.{scene_with}
use Rattle.body_store.proofs.Holding.{still_none}
use Rattle.body_store.proofs.Shown.{shown_scene}
use Rattle.body_store.proofs.store.Store.show.Goals as goal

pub returns-clause-around : goal.returns-clause-around
returns-clause-around c = λ none.
    let x = c.args.self.now in
    still_none (scene_with x.design.now) (scene_with x.design.now) (reads_of x.signals) (reads_of c.show.new.self) (w.around x.words x.memories.items) (w.around x.words x.memories.items) x.log none

pub returns-clause-reads : goal.returns-clause-reads
returns-clause-reads c =
    let x = c.args.self.now in
    shown_scene x.design.now x.memories.items (read_at x.signals) (read_at c.show.new.self) c.args.signal c.signed_as.result c.args.value.now.bits c.requires.place (ap (λ q. q.bits) c.signed_as.ensures) (ap (λ q. q.blame) c.signed_as.ensures) c.show.ensures.reads
