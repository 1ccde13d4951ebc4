use Rattle.std.proofs.Common.{false, ap}
use Rattle.four_state.specs.Operators.{SameShape}
use Rattle.four_state.proofs.NumberLaws.{at_most_law}
use Rattle.four_state.proofs.four.Four.binary.Goals as goal

pub returns-in-LessOrEqual : goal.returns-in-LessOrEqual
returns-in-LessOrEqual c =
    let shape : SameShape c.args.a.now c.args.b.now = rw c.in-LessOrEqual.is at c.requires in
    let sign = shape.1 in
    rw (c.in-LessOrEqual.is, c.one_bit-in-LessOrEqual.ensures, c.not.ensures) (ap (λ bs. record { bits = bs; signed = false }) (at_most_law c.args.a.now.signed c.args.a.now.bits c.args.b.now.bits c.less-in-LessOrEqual.result (rw (← sign) at c.less-in-LessOrEqual.ensures)))

pub returns-in-GreaterOrEqual : goal.returns-in-GreaterOrEqual
returns-in-GreaterOrEqual c =
    rw (c.in-GreaterOrEqual.is, c.one_bit-in-GreaterOrEqual.ensures, c.not-in-GreaterOrEqual.ensures) (ap (λ bs. record { bits = bs; signed = false }) (at_most_law c.args.a.now.signed c.args.b.now.bits c.args.a.now.bits c.less-in-GreaterOrEqual.result c.less-in-GreaterOrEqual.ensures))
