use Rattle.signal_binding.proofs.BoundLemmas.{bound_by_header}
use Rattle.signal_binding.proofs.laws.bound_by_header.Goals as goal

pub returns : goal.returns
returns c = bound_by_header
