use Rattle.std.proofs.Common.{◌-◌, subst, sym}
use Rattle.design_model.specs.View.{design_view}
use Rattle.word_log.specs.memory_rebuild.Words.{StandsFor}
use Rattle.write_log.specs.value_store.Signals.{read_at}
use Rattle.body_store.specs.Fitting.{memory_in}
use Rattle.body_store.specs.Scenes.{kept_by, signal_count}
use Rattle.body_store.proofs.Fit.{memory_stands}
use Rattle.body_store.proofs.reads.StoreReads.word.Goals as goal

pub returns : goal.returns
returns c =
    let x = c.args.self.now in
    let d = design_view x.design.now in
    let k = kept_by (signal_count x) (read_at x.signals) (λ i. (memory_in x.memories.items i).words) in
    let m = c.args.memory in
    let stands : StandsFor d k m (memory_in x.memories.items (m - signal_count x)).words = memory_stands d x.signals x.memories.items (read_at x.signals) m x.fits c.requires in
    c.read.ensures.stands d k m (subst (λ r. StandsFor d k m r.words) (sym c.memory.ensures) stands)
