use Rattle.design_model.specs.View.{design_view}
use Rattle.write_log.specs.value_store.Signals.{read_at}
use Rattle.body_store.specs.Fitting.{memory_in}
use Rattle.body_store.proofs.Fit.{reads_signal}
use Rattle.body_store.proofs.reads.StoreReads.signal.Goals as goal

pub returns-clause-bits : goal.returns-clause-bits
returns-clause-bits c =
    let x = c.args.self.now in
    reads_signal (design_view x.design.now) x.signals (read_at x.signals) (λ i. (memory_in x.memories.items i).words) c.args.signal c.read.result x.fits.shapes c.requires c.read.ensures.value c.read.ensures.shape.0
