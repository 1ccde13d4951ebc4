use Rattle.std.proofs.Common.{◌==◌, not, ap, ◌∙◌}
use Rattle.four_state.specs.Vector.{is_zero}
use Rattle.four_state.proofs.ReductionLaws.{mask_is_not_zero}
use Rattle.four_state.proofs.four.Four.has_zero.Goals as goal

pub returns : goal.returns
returns c = ap (λ n. not (n == 0)) c.known_zeros.ensures.value ∙ mask_is_not_zero is_zero c.args.self.now.bits
