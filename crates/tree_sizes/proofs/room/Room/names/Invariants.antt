use Rattle.std.proofs.Common.{◌≡◌, ◌-◌, drop}
use Rattle.tree_sizes.specs.Sizes.{named_size, total}
use Rattle.tree_sizes.proofs.room.Room.names.Given as goal

-- the rest is still to be taken
abbrev pub invariant-loop-name : goal.invariant-loop-name
invariant-loop-name l = l.self.left - total named_size (drop l.name-index l.names) ≡ l.fn.self.left - total named_size l.fn.names
