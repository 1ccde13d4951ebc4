use Rattle.std.proofs.Common.{◌≡◌, ◌-◌, drop}
use Rattle.tree_sizes.specs.Sizes.{named_size, total}
use Rattle.tree_sizes.proofs.room.Room.edges.Given as goal

-- the rest is still to be taken
abbrev pub invariant-loop-edge : goal.invariant-loop-edge
invariant-loop-edge l = l.self.left - total (λ e. named_size e.1) (drop l.edge-index l.edges) ≡ l.fn.self.left - total (λ e. named_size e.1) l.fn.edges
