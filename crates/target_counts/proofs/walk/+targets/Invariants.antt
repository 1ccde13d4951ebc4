use Rattle.std.proofs.Common.{◌+◌, ◌*◌, drop, map}
use Rattle.design_model.specs.Once.{all_parts_on}
use Rattle.design_model.specs.View.{target_view, targets_of}
use Rattle.design_model.specs.declared.tree.Target.{size-Target}
use Rattle.target_counts.specs.Counts.{Counts}
use Rattle.target_counts.specs.declared.counts.TargetCounts.{TargetCounts}
use Rattle.target_counts.proofs.walk.+targets.Given as goal

-- what the rest counts after the targets so far, all of them count
abbrev pub invariant-count_targets-loop-target : goal.invariant-count_targets-loop-target
invariant-count_targets-loop-target l =
    (end : TargetCounts) → Counts (λ x. all_parts_on x (targets_of (map target_view (drop l.target-index l.targets)))) l.counts end → Counts (λ x. all_parts_on x (targets_of (map target_view l.fn.targets))) l.fn.counts end

-- each call is of a part
abbrev pub decreases-count_target : goal.decreases-count_target
decreases-count_target l = 2 * size-Target l.target.now

abbrev pub decreases-count_targets : goal.decreases-count_targets
decreases-count_targets l = 2 * goal.size-count_targets l + 1
