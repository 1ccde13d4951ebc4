use Rattle.std.proofs.Common.{true, false}
use Rattle.four_state.proofs.Places.{is_set-zero, is_set-ones}
use Rattle.four_state.proofs.Lifted.{filled}
use Rattle.verilog_expressions.proofs.digits.copies.Goals as goal

pub returns-in-Zero-clause-value : goal.returns-in-Zero-clause-value
returns-in-Zero-clause-value c = rw c.in-Zero.is (filled false false c.args.width 0 0 (λ i _. is_set-zero i) (λ i _. is_set-zero i))

pub returns-in-One-clause-value : goal.returns-in-One-clause-value
returns-in-One-clause-value c = rw (c.in-One.is, c.low_mask-all.ensures) (filled true false c.args.width _ 0 (is_set-ones c.args.width) (λ i _. is_set-zero i))

pub returns-in-X-clause-value : goal.returns-in-X-clause-value
returns-in-X-clause-value c = rw (c.in-X.is, c.low_mask-all.ensures) (filled false true c.args.width 0 _ (λ i _. is_set-zero i) (is_set-ones c.args.width))

pub returns-in-Z-clause-value : goal.returns-in-Z-clause-value
returns-in-Z-clause-value c = rw (c.in-Z.is, c.low_mask-all.ensures) (filled true true c.args.width _ _ (is_set-ones c.args.width) (is_set-ones c.args.width))
