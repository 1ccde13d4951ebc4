use Rattle.index_sets.specs.Members.{IsIdentity}
use Rattle.index_sets.proofs.index_set.numbers_below.Given as goal

-- the numbers so far
abbrev pub invariant-loop-number : goal.invariant-loop-number
invariant-loop-number l = IsIdentity l.numbers.items l.number
