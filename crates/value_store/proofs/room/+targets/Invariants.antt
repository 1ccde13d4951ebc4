use Rattle.std.proofs.Common.{◌≡◌, ◌<◌, ◌^◌, ◌+◌, ◌*◌, drop, map}
use Rattle.design_model.specs.View.{target_view, targets_of}
use Rattle.design_model.specs.declared.tree.Target.{size-Target}
use Rattle.value_store.specs.Rooms.{all_parts, as_usize}
use Rattle.value_store.proofs.room.+targets.Given as goal

-- the number so far, with those of the rest, is that of all targets
abbrev pub invariant-with_targets-loop-target : goal.invariant-with_targets-loop-target
invariant-with_targets-loop-target l =
    record { sum : as_usize (l.total + all_parts (targets_of (map target_view (drop l.target-index l.targets)))) ≡ as_usize (l.count + all_parts (targets_of (map target_view l.targets))); small : l.total < 2 ^ 64 }

-- each call is of a part
abbrev pub decreases-with_target : goal.decreases-with_target
decreases-with_target l = 2 * size-Target l.target.now

abbrev pub decreases-with_targets : goal.decreases-with_targets
decreases-with_targets l = 2 * goal.size-with_targets l + 1
