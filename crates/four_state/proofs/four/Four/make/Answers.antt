use Rattle.four_state.specs.Stored.{width_of_bits}
use Rattle.four_state.proofs.four.Four.make.Goals as goal

pub returns-clause-width : goal.returns-clause-width
returns-clause-width c = width_of_bits c.args.width c.args.ones c.args.strange
