use Rattle.std.proofs.Common.{◌≡◌, ◌-◌, drop}
use Rattle.verilog_tree.specs.View.{declareds_view}
use Rattle.tree_sizes.specs.Sizes.{declared_size, total}
use Rattle.tree_sizes.proofs.room.Room.declared.Given as goal

-- the rest is still to be taken
abbrev pub invariant-loop-one : goal.invariant-loop-one
invariant-loop-one l = l.self.left - total declared_size (declareds_view (drop l.one-index l.names)) ≡ l.fn.self.left - total declared_size (declareds_view l.fn.names)
