use Rattle.std.proofs.Common.{◌≡◌, ◌-◌, drop}
use Rattle.verilog_tree.specs.View.{givens_view}
use Rattle.tree_sizes.specs.Sizes.{given_size, total}
use Rattle.tree_sizes.proofs.room.Room.given.Given as goal

-- the rest is still to be taken
abbrev pub invariant-loop-one : goal.invariant-loop-one
invariant-loop-one l = l.self.left - total given_size (givens_view (drop l.one-index l.given)) ≡ l.fn.self.left - total given_size (givens_view l.fn.given)
