use Rattle.mark_laws.proofs.Signals.{signals_marked}
use Rattle.mark_laws.proofs.signals_law.Goals as goal

pub returns : goal.returns
returns c st ps ns before after once h follow = signals_marked st ps ns before after once h follow
