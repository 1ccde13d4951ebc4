use Rattle.std.proofs.Common.{◌≡◌, ◌-◌, drop}
use Rattle.verilog_tree.specs.View.{items_view}
use Rattle.tree_sizes.specs.Sizes.{item_size, total}
use Rattle.tree_sizes.proofs.room.Room.items.Given as goal

-- the rest is still to be taken
abbrev pub invariant-loop-item : goal.invariant-loop-item
invariant-loop-item l = l.self.left - total item_size (items_view (drop l.item-index l.items)) ≡ l.fn.self.left - total item_size (items_view l.fn.items)
