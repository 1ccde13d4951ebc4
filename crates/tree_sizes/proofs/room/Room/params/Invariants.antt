use Rattle.std.proofs.Common.{◌≡◌, ◌-◌, drop}
use Rattle.verilog_tree.specs.View.{params_view}
use Rattle.tree_sizes.specs.Sizes.{param_size, total}
use Rattle.tree_sizes.proofs.room.Room.params.Given as goal

-- the rest is still to be taken
abbrev pub invariant-loop-param : goal.invariant-loop-param
invariant-loop-param l = l.self.left - total param_size (params_view (drop l.param-index l.params)) ≡ l.fn.self.left - total param_size (params_view l.fn.params)
