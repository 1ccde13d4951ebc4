use Rattle.std.proofs.Common.{◌≡◌, ◌-◌, drop}
use Rattle.verilog_tree.specs.Tree.{arms_of}
use Rattle.verilog_tree.specs.View.{arms_view}
use Rattle.tree_sizes.specs.Sizes.{labels_size}
use Rattle.tree_sizes.proofs.room.Room.labels.Given as goal

-- the rest is still to be taken
abbrev pub invariant-loop-arm : goal.invariant-loop-arm
invariant-loop-arm l = l.self.left - labels_size (arms_of (arms_view (drop l.arm-index l.arms))) ≡ l.fn.self.left - labels_size (arms_of (arms_view l.fn.arms))
