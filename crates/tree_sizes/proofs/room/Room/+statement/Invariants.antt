use Rattle.std.proofs.Common.{◌≡◌, ◌-◌, drop}
use Rattle.verilog_tree.specs.Tree.{arms_of, statements_of}
use Rattle.verilog_tree.specs.View.{arms_view, statements_view}
use Rattle.tree_sizes.specs.Sizes.{items_size, statements_size}
use Rattle.tree_sizes.proofs.room.Room.+statement.Given as goal

-- the rest is still to be taken
abbrev pub invariant-statements-loop-statement : goal.invariant-statements-loop-statement
invariant-statements-loop-statement l = l.self.left - statements_size (statements_of (statements_view (drop l.statement-index l.statements))) ≡ l.fn.self.left - statements_size (statements_of (statements_view l.fn.statements))

abbrev pub invariant-arms-loop-arm : goal.invariant-arms-loop-arm
invariant-arms-loop-arm l = l.self.left - items_size (arms_of (arms_view (drop l.arm-index l.arms))) ≡ l.fn.self.left - items_size (arms_of (arms_view l.fn.arms))
