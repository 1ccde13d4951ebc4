use Rattle.std.proofs.Common.{◌≡◌, ◌-◌, drop}
use Rattle.verilog_tree.specs.View.{ones_view}
use Rattle.tree_sizes.specs.Sizes.{one_size, total}
use Rattle.tree_sizes.proofs.room.Room.ones.Given as goal

-- the rest is still to be taken
abbrev pub invariant-loop-one : goal.invariant-loop-one
invariant-loop-one l = l.self.left - total one_size (ones_view (drop l.one-index l.ones)) ≡ l.fn.self.left - total one_size (ones_view l.fn.ones)
