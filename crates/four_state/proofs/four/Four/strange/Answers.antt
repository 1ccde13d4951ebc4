use Rattle.four_state.proofs.Lifted.{mask_below}
use Rattle.four_state.proofs.Kept.{kept_strange}
use Rattle.four_state.proofs.four.Four.strange.Goals as goal

pub returns-clause-value : goal.returns-clause-value
returns-clause-value c = kept_strange c.self.inside.width c.self.inside.ones c.self.inside.strange c.self.inside.signed c.args.self.now c.self.view_is c.self.invariant

pub returns-clause-inside : goal.returns-clause-inside
returns-clause-inside c = let e = returns-clause-value c in rw e (mask_below _ c.args.self.now.bits)
