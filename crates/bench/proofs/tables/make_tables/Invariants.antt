use Rattle.std.proofs.Common.{◌≡◌, All, length}
use Rattle.bench.proofs.tables.make_tables.Given as goal

abbrev pub invariant-loop-table : goal.invariant-loop-table
invariant-loop-table l = All (λ set. length set ≡ l.points) l.sets.items
