use Rattle.std.proofs.Common.{◌+◌, ◌*◌, drop, map}
use Rattle.design_model.specs.View.{target_view, targets_of}
use Rattle.design_model.specs.declared.tree.Target.{size-Target}
use Rattle.process_names.specs.Names.{all_index_names}
use Rattle.body_names.proofs.Taking.{TakesOn}
use Rattle.body_names.proofs.targets.+targets.Given as goal

-- the names so far, and those of the rest, are those of all targets
abbrev pub invariant-name_targets-loop-target : goal.invariant-name_targets-loop-target
invariant-name_targets-loop-target g l =
    g.N.Names.ready l.names
    × TakesOn g.N.Names.named l.fn.names (all_index_names (targets_of (map target_view l.fn.targets))) l.names (all_index_names (targets_of (map target_view (drop l.target-index l.targets))))

-- each call is of a part
abbrev pub decreases-name_target : goal.decreases-name_target
decreases-name_target g l = 2 * size-Target l.target.now

abbrev pub decreases-name_targets : goal.decreases-name_targets
decreases-name_targets g l = 2 * goal.size-name_targets g l + 1
