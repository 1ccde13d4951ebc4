use Rattle.std.proofs.Common.{arith, ◌-ℤ◌, ap, sym, ◌∙◌}
use Rattle.four_state.proofs.NumberLaws.{difference_law, unknown_law}
use Rattle.four_state.proofs.arithmetic.subtract.Goals as goal

pub returns-then-are_known : goal.returns-then-are_known
returns-then-are_known c =
    rw (c.cut.ensures.value, c.known_ones.ensures.number, c.known_ones-then-are_known.ensures.number) (ap (λ bs. record { bits = bs; signed = c.args.a.now.signed }) (difference_law c.args.a.now.signed c.args.a.now.bits c.args.b.now.bits (sym c.are_known.ensures ∙ c.if-are_known.true) c.requires.0 c.cut.ensures.within.1 (let number = c.known_ones-then-are_known.ensures.number in omega (arith, number))))

pub returns-else-are_known : goal.returns-else-are_known
returns-else-are_known c =
    rw c.unknown.ensures (ap (λ bs. record { bits = bs; signed = c.args.a.now.signed }) (unknown_law ◌-ℤ◌ c.args.a.now.signed c.args.a.now.bits c.args.b.now.bits (sym c.are_known.ensures ∙ c.if-are_known.false)))
