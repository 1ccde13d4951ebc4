use Rattle.std.proofs.Common.{◌≡◌, map, take}
use Rattle.design_model.specs.View.{target_view}
use Rattle.process_copies.proofs.targets.+targets.Given as goal

-- the copies so far are those of the front
abbrev pub invariant-copy_targets-loop-target : goal.invariant-copy_targets-loop-target
invariant-copy_targets-loop-target l = map target_view l.copies.items ≡ map target_view (take l.target-index l.targets)
