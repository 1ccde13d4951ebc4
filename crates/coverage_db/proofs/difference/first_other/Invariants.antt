use Rattle.std.proofs.Common.{◌≡◌, drop}
use Rattle.coverage_db.specs.Merge.{first_other}
use Rattle.coverage_db.proofs.Differing.{moved}
use Rattle.coverage_db.proofs.difference.first_other.Given as goal

-- what is left differs where all do
abbrev pub invariant-loop-place : goal.invariant-loop-place
invariant-loop-place g l = moved l.place (first_other g.T.Compared.same (drop l.place l.left) (drop l.place l.right)) ≡ first_other g.T.Compared.same l.left l.right
