use Rattle.std.proofs.Common.{◌≡◌}
use Rattle.library_tests.proofs.number_sets.wakes.agrees.Given as goal

-- the count of processes stays
abbrev pub invariant-loop : goal.invariant-loop
invariant-loop l = l.list.count ≡ 16
