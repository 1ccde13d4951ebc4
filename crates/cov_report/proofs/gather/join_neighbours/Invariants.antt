use Rattle.std.proofs.Common.{◌≡◌, ◌+◌, ◌++◌, ◌∷◌, [], take}
use Rattle.cov_report.specs.Gathered.{gathered}
use Rattle.cov_report.proofs.gather.join_neighbours.Given as goal

-- what is kept, and the last item, are what the items so far make
abbrev pub invariant-loop-item : goal.invariant-loop-item
invariant-loop-item g l = l.joined.items ++ l.last ∷ [] ≡ gathered g.T.Ranked.cmp g.T.Ranked.join (take (l.item-index + 1) l.items)
