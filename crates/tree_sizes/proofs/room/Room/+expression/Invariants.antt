use Rattle.std.proofs.Common.{◌≡◌, ◌-◌, drop}
use Rattle.verilog_tree.specs.Tree.{exprs_of}
use Rattle.verilog_tree.specs.View.{exprs_view}
use Rattle.tree_sizes.specs.Sizes.{all_sizes}
use Rattle.tree_sizes.proofs.room.Room.+expression.Given as goal

-- the rest is still to be taken
abbrev pub invariant-expressions-loop-expr : goal.invariant-expressions-loop-expr
invariant-expressions-loop-expr l = l.self.left - all_sizes (exprs_of (exprs_view (drop l.expr-index l.exprs))) ≡ l.fn.self.left - all_sizes (exprs_of (exprs_view l.fn.exprs))
