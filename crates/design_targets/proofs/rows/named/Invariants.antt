use Rattle.std.proofs.Common.{◌≡◌, ◌++◌, drop, map}
use Rattle.std.specs.List.{flat_map}
use Rattle.design_targets.specs.Leaves.{leaf_view}
use Rattle.design_targets.specs.Written.{leaf_names}
use Rattle.design_targets.proofs.rows.named.Given as goal

-- the names so far, with those of the rest, are those of all parts
abbrev pub invariant-loop-leaf : goal.invariant-loop-leaf
invariant-loop-leaf l = l.list.items ++ flat_map leaf_names (map leaf_view (drop l.leaf-index l.leaves)) ≡ flat_map leaf_names (map leaf_view l.fn.leaves)
