use Rattle.std.proofs.Common.{◌∙◌, ap}
use Rattle.term_replay.proofs.Standing.{joined_self}
use Rattle.term_replay.proofs.fit.blamed.Goals as goal

pub returns-clause-bits : goal.returns-clause-bits
returns-clause-bits c = ap (λ y. y.bits) c.join.ensures.value ∙ joined_self c.args.value.now.bits
