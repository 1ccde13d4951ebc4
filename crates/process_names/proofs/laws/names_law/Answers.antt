use Rattle.process_names.proofs.AssignedLaw.{blocks_is, queues_is}
use Rattle.process_names.proofs.NamesLaw.{level_is}
use Rattle.process_names.proofs.laws.names_law.Goals as goal

pub returns : goal.returns
returns c = record { level = λ p x. level_is x p; blocking = λ s x. blocks_is x s; nonblocking = λ s x. queues_is x s }
