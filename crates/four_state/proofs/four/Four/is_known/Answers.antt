use Rattle.std.proofs.Common.{◌==◌, ap, ◌∙◌}
use Rattle.four_state.proofs.Kept.{kept_strange}
use Rattle.four_state.proofs.ReductionLaws.{no_strange_place}
use Rattle.four_state.proofs.four.Four.is_known.Goals as goal

pub returns : goal.returns
returns c = ap (λ n. n == 0) (kept_strange c.self.inside.width c.self.inside.ones c.self.inside.strange c.self.inside.signed c.args.self.now c.self.view_is c.self.invariant) ∙ no_strange_place c.args.self.now.bits
