use Rattle.std.proofs.Common.{◌≡◌, [], map, replicate}
use Rattle.design_wakes.proofs.turned.empty_lists.Given as goal

-- so many empty lists so far
abbrev pub invariant-loop-done : goal.invariant-loop-done
invariant-loop-done l = map (λ list. list.items) l.lists.items ≡ replicate l.done []
