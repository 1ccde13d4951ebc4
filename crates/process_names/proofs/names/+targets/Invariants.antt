use Rattle.std.proofs.Common.{◌≡◌, ◌+◌, ◌*◌, ◌++◌, drop, map}
use Rattle.design_model.specs.View.{target_view, targets_of}
use Rattle.design_model.specs.declared.tree.Target.{size-Target}
use Rattle.process_names.specs.Names.{all_index_names}
use Rattle.process_names.proofs.names.+targets.Given as goal

-- the names so far, with those of the rest, are those of all targets
abbrev pub invariant-push_targets-loop-target : goal.invariant-push_targets-loop-target
invariant-push_targets-loop-target l =
    l.found.items ++ all_index_names (targets_of (map target_view (drop l.target-index l.targets))) ≡ l.fn.found.items ++ all_index_names (targets_of (map target_view l.fn.targets))

-- each call is of a part
abbrev pub decreases-push_target : goal.decreases-push_target
decreases-push_target l = 2 * size-Target l.target.now

abbrev pub decreases-push_targets : goal.decreases-push_targets
decreases-push_targets l = 2 * goal.size-push_targets l + 1
