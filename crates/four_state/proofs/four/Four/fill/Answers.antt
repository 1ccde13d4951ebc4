use Rattle.std.proofs.Common.{true, false, ap}
use Rattle.four_state.proofs.Places.{is_set-zero, is_set-ones}
use Rattle.four_state.proofs.Lifted.{filled}
use Rattle.four_state.proofs.four.Four.fill.Goals as goal

pub returns-in-Zero : goal.returns-in-Zero
returns-in-Zero c =
    rw (c.in-Zero.is, c.make.ensures.value) (ap (λ bs. record { bits = bs; signed = c.args.signed }) (filled false false c.args.width 0 0 (λ i _. is_set-zero i) (λ i _. is_set-zero i)))

pub returns-in-One : goal.returns-in-One
returns-in-One c =
    rw (c.in-One.is, c.make-in-One.ensures.value, c.low_mask-all.ensures) (ap (λ bs. record { bits = bs; signed = c.args.signed }) (filled true false c.args.width _ 0 (is_set-ones c.args.width) (λ i _. is_set-zero i)))

pub returns-in-X : goal.returns-in-X
returns-in-X c =
    rw (c.in-X.is, c.make-in-X.ensures.value, c.low_mask-all.ensures) (ap (λ bs. record { bits = bs; signed = c.args.signed }) (filled false true c.args.width 0 _ (λ i _. is_set-zero i) (is_set-ones c.args.width)))

pub returns-in-Z : goal.returns-in-Z
returns-in-Z c =
    rw (c.in-Z.is, c.make-in-Z.ensures.value, c.low_mask-all.ensures) (ap (λ bs. record { bits = bs; signed = c.args.signed }) (filled true true c.args.width _ _ (is_set-ones c.args.width) (is_set-ones c.args.width)))
