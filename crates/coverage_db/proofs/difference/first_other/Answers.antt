use Rattle.std.proofs.Common.{◌≡◌, ℕ, length, Some, sym, ap, ◌∙◌, arith}
use Rattle.coverage_db.proofs.Differing.{other_longer}
use Rattle.coverage_db.proofs.difference.first_other.Goals as goal

pub returns-then-right-left-clause-place : goal.returns-then-right-left-clause-place
returns-then-right-left-clause-place g c =
    let same : length c.args.left.now ≡ c.loop-place.place = omega arith in
    ap (λ (n : ℕ). Some n) same ∙ sym (other_longer g.T.Compared.same c.args.left.now c.args.right.now c.loop-place.place (omega arith) (omega arith)) ∙ c.loop-place.invariant
