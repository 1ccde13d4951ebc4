use Rattle.store_knowledge.proofs.Knowing.{bits_known}
use Rattle.store_knowledge.proofs.signals.known_signal.Goals as goal

pub returns : goal.returns
returns c = λ d k h. bits_known d k c.args.store.now c.args.signal c.kept_signal.result c.kept_signal.ensures h
