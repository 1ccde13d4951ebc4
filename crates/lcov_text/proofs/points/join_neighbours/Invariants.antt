use Rattle.std.proofs.Common.{◌≡◌, ◌+◌, ◌++◌, ◌∷◌, [], take}
use Rattle.cov_report.specs.Gathered.{gathered}
use Rattle.lcov_text.specs.Views.{traced_cmp, joined_traced}
use Rattle.lcov_text.proofs.points.join_neighbours.Given as goal

-- what is kept, and the last point, are what the points so far make
abbrev pub invariant-loop-point : goal.invariant-loop-point
invariant-loop-point l = l.joined.items ++ l.last ∷ [] ≡ gathered traced_cmp joined_traced (take (l.point-index + 1) l.sorted)
