use Rattle.std.proofs.Common.{ap, sym, ◌∙◌}
use Rattle.four_state.proofs.NumberLaws.{negative_law}
use Rattle.four_state.proofs.arithmetic.negative.Goals as goal

pub returns-then-is_known : goal.returns-then-is_known
returns-then-is_known c =
    rw (c.cut.ensures.value) (ap (λ bs. record { bits = bs; signed = c.args.a.now.signed }) (negative_law c.wrapping_neg.result c.args.a.now.bits c.cut.ensures.within.1 (sym c.is_known.ensures ∙ c.if-is_known.true) (rw c.known_ones.ensures.number at c.wrapping_neg.ensures)))
