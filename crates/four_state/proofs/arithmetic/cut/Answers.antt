use Rattle.std.proofs.Common.{length, ap}
use Rattle.four_state.proofs.NumberLaws.{cut_by_mask}
use Rattle.four_state.proofs.arithmetic.cut.Goals as goal

pub returns-clause-value : goal.returns-clause-value
returns-clause-value c = rw (c.make.ensures.value, c.low_mask.ensures, c.width.ensures.value, c.width-2.ensures.value, c.is_signed.ensures) (ap (λ bs. record { bits = bs; signed = c.args.like.now.signed }) (cut_by_mask (length c.args.like.now.bits) c.args.number))
