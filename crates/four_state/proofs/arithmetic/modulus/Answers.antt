use Rattle.std.proofs.Common.{ap, sym, ◌∙◌}
use Rattle.four_state.proofs.NumberLaws.{undivided_law, remainder_law}
use Rattle.std.specs.Prelude.{int_rem}
use Rattle.four_state.proofs.arithmetic.modulus.Goals as goal

pub returns-then-not-can_divide : goal.returns-then-not-can_divide
returns-then-not-can_divide c =
    rw c.unknown.ensures (ap (λ bs. record { bits = bs; signed = c.args.a.now.signed }) (undivided_law int_rem c.args.a.now.signed c.args.a.now.bits c.args.b.now.bits (sym c.can_divide.ensures ∙ c.if-not-can_divide.true)))

pub returns : goal.returns
returns c =
    let sign = c.requires.1 in
    rw c.cut.ensures.value (ap (λ bs. record { bits = bs; signed = c.args.a.now.signed }) (remainder_law c.args.a.now.signed c.args.a.now.bits c.args.b.now.bits (sym c.can_divide.ensures ∙ c.if-not-can_divide.false) c.requires.0 c.cut.ensures.within.1 c.with_sign.result
    (rw (c.is_negative.ensures, c.magnitude.ensures, c.magnitude-2.ensures, ← sign) at c.with_sign.ensures.positive)
    (rw (c.is_negative.ensures, c.magnitude.ensures, c.magnitude-2.ensures, ← sign) at c.with_sign.ensures.negative)))
