use Rattle.four_state.proofs.Kept.{kept_width}
use Rattle.four_state.proofs.four.Four.width.Goals as goal

pub returns-clause-value : goal.returns-clause-value
returns-clause-value c = kept_width c.self.inside.width c.self.inside.ones c.self.inside.strange c.self.inside.signed c.args.self.now c.self.view_is c.self.invariant

pub returns-clause-within : goal.returns-clause-within
returns-clause-within c = let e = returns-clause-value c in rw (← e) (c.self.invariant.at_least, c.self.invariant.at_most)
