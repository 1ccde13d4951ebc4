use Rattle.signal_binding.proofs.BoundLemmas.{code_at}
use Rattle.signal_binding.proofs.laws.codes_by_number.Goals as goal

pub returns : goal.returns
returns c = code_at
