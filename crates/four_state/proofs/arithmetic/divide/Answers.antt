use Rattle.std.proofs.Common.{ap, sym, ◌∙◌}
use Rattle.four_state.proofs.NumberLaws.{undivided_law, quotient_law, differ_is}
use Rattle.std.specs.Prelude.{int_div}
use Rattle.four_state.proofs.arithmetic.divide.Goals as goal

pub returns-then-not-can_divide : goal.returns-then-not-can_divide
returns-then-not-can_divide c =
    rw c.unknown.ensures (ap (λ bs. record { bits = bs; signed = c.args.a.now.signed }) (undivided_law int_div c.args.a.now.signed c.args.a.now.bits c.args.b.now.bits (sym c.can_divide.ensures ∙ c.if-not-can_divide.true)))

pub returns : goal.returns
returns c =
    let sign = c.requires.1 in
    rw c.cut.ensures.value (ap (λ bs. record { bits = bs; signed = c.args.a.now.signed }) (quotient_law c.args.a.now.signed c.args.a.now.bits c.args.b.now.bits (sym c.can_divide.ensures ∙ c.if-not-can_divide.false) c.requires.0 c.cut.ensures.within.1 c.with_sign.result
    (rw (differ_is, c.is_negative.ensures, c.is_negative-2.ensures, c.magnitude.ensures, c.magnitude-2.ensures, ← sign) at c.with_sign.ensures.positive)
    (rw (differ_is, c.is_negative.ensures, c.is_negative-2.ensures, c.magnitude.ensures, c.magnitude-2.ensures, ← sign) at c.with_sign.ensures.negative)))
