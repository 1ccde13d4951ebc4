use Rattle.std.proofs.Common.{◌==◌, not, ap, ◌∙◌}
use Rattle.four_state.specs.Vector.{is_one}
use Rattle.four_state.proofs.ReductionLaws.{mask_is_not_zero}
use Rattle.four_state.proofs.four.Four.has_one.Goals as goal

pub returns : goal.returns
returns c = ap (λ n. not (n == 0)) c.known_ones.ensures.value ∙ mask_is_not_zero is_one c.args.self.now.bits
