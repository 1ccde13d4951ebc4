use Rattle.std.proofs.Common.{sym}
use Rattle.four_state.proofs.NumberLaws.{natural_is}
use Rattle.four_state.proofs.Lifted.{mask_below}
use Rattle.four_state.proofs.Kept.{kept_known_ones}
use Rattle.four_state.proofs.four.Four.known_ones.Goals as goal

pub returns-clause-value : goal.returns-clause-value
returns-clause-value c = kept_known_ones c.self.inside.width c.self.inside.ones c.self.inside.strange c.self.inside.signed c.args.self.now c.self.view_is c.self.invariant

pub returns-clause-inside : goal.returns-clause-inside
returns-clause-inside c = let e = returns-clause-value c in rw e (mask_below _ c.args.self.now.bits)

pub returns-clause-number : goal.returns-clause-number
returns-clause-number c = let e = returns-clause-value c in rw e (sym (natural_is c.args.self.now.bits))
