use Rattle.std.proofs.Common.{arith, ◌/◌, ◌≡◌, ◌-◌, ◌^◌, ◌∙◌, ap}
use Rattle.std.proofs.lemmas.Nat.{and_le_r}
use Rattle.std.proofs.lemmas.Nat.Bits.{ones_shr}
use Rattle.std.proofs.Math.Pow.{pow_pos}
use Rattle.bench.proofs.operators.vector.Goals as goal

-- a number within the mask of the lowest places is below the width's power
pub make-requires-clause-ones_inside : goal.make-requires-clause-ones_inside
make-requires-clause-ones_inside c =
    let width : 128 - (128 - c.args.width) ≡ c.args.width = omega arith in
    let mask = ones_shr 128 (128 - c.args.width) (omega arith) ∙ ap (λ n. 2 ^ n - 1) width in
    omega (arith, and_le_r c.args.number ((2 ^ 128 - 1) / 2 ^ (128 - c.args.width)), mask, pow_pos c.args.width)
