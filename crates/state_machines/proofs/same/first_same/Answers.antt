use Rattle.std.proofs.Common.{ℕ, arith, below_more}
use Rattle.std.proofs.lemmas.Bool.{iff_false}
use Rattle.state_machines.specs.Same.{HasBefore}
use Rattle.state_machines.proofs.same.first_same.Goals as goal

pub loop-place-preserved : goal.loop-place-preserved
loop-place-preserved c = below_more (λ (k : ℕ). HasBefore c.args.values.now k → ⊥) c.loop-place.place c.loop-place.invariant (iff_false c.has_before.ensures c.if-has_before.false)

pub returns-clause-none : goal.returns-clause-none
returns-clause-none c = λ k l. c.loop-place.invariant k (omega (arith, c.loop-place-test.false))
