use Rattle.std.proofs.Common.{◌≡◌, map, take}
use Rattle.std.specs.List.{Contains}
use Rattle.design_wakes.specs.Transpose.{AddsPairs}
use Rattle.design_wakes.proofs.turned.add_list.Given as goal

-- the items so far are added
abbrev pub invariant-loop-item : goal.invariant-loop-item
invariant-loop-item l = AddsPairs (λ x p. Contains (take l.item-index l.items) x × (l.number ≡ p)) (map (λ row. row.items) l.fn.rows.items) (map (λ row. row.items) l.rows.items)
