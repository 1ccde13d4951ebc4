use Rattle.std.proofs.Common.{◌≡◌, ◌+◌, ◌*◌, ◌++◌, drop, map}
use Rattle.design_model.specs.View.{target_view, targets_of}
use Rattle.design_model.specs.declared.tree.Target.{size-Target}
use Rattle.design_targets.specs.Leaves.{all_target_leaves, leaf_view}
use Rattle.design_targets.proofs.leaves.+targets.Given as goal

-- the parts so far, with those of the rest, are those of all targets
abbrev pub invariant-push_targets-loop-target : goal.invariant-push_targets-loop-target
invariant-push_targets-loop-target l =
    map leaf_view l.found.items ++ all_target_leaves (targets_of (map target_view (drop l.target-index l.targets))) ≡ map leaf_view l.fn.found.items ++ all_target_leaves (targets_of (map target_view l.fn.targets))

-- each call is of a part
abbrev pub decreases-push_target : goal.decreases-push_target
decreases-push_target l = 2 * size-Target l.target.now

abbrev pub decreases-push_targets : goal.decreases-push_targets
decreases-push_targets l = 2 * goal.size-push_targets l + 1
