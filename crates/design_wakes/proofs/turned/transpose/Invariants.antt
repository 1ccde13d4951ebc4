use Rattle.std.proofs.Common.{[], map, replicate}
use Rattle.design_wakes.specs.Transpose.{AddsPairs}
use Rattle.design_wakes.proofs.Adding.{So}
use Rattle.design_wakes.proofs.turned.transpose.Given as goal

-- the lists so far are added
abbrev pub invariant-loop-list : goal.invariant-loop-list
invariant-loop-list l = AddsPairs (So (map (λ list. list.items) l.lists) l.list) (replicate l.count []) (map (λ row. row.items) l.rows.items)
