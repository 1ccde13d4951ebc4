use Rattle.std.proofs.Common.{◌≡◌, length, map, take}
use Rattle.design_model.specs.View.{design_view}
use Rattle.design_targets.specs.Leaves.{leaf_view}
use Rattle.process_targets.specs.Placed.{ArePlaced}
use Rattle.process_targets.specs.Rows.{HasLeaves}
use Rattle.process_targets.proofs.rows.bits_of.Given as goal

-- the row has the bits of the parts so far
abbrev pub invariant-loop-leaf : goal.invariant-loop-leaf
invariant-loop-leaf l = record { size : length l.places ≡ length l.fn.places; placed : ArePlaced l.row.items l.places; row : HasLeaves (design_view l.design) (map leaf_view (take l.leaf-index l.leaves)) l.row.items }
