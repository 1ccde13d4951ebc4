use Rattle.std.proofs.Common.{◌≡◌, All, length}
use Rattle.table_tests.proofs.rankings.sets_of.Given as goal

abbrev pub invariant-loop-text : goal.invariant-loop-text
invariant-loop-text l = All (λ set. length set ≡ 6) l.sets.items
