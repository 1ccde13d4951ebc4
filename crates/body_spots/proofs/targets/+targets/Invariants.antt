use Rattle.std.proofs.Common.{◌+◌, ◌*◌, drop, map}
use Rattle.design_model.specs.View.{design_view, target_view, targets_of}
use Rattle.design_model.specs.declared.tree.Target.{size-Target}
use Rattle.value_store.specs.body_replay.Contract.{targets_spots}
use Rattle.body_spots.proofs.Hits.{HitsOn}
use Rattle.body_spots.proofs.targets.+targets.Given as goal

-- the spots so far, and those of the rest, are those of all targets
abbrev pub invariant-note_targets-loop-target : goal.invariant-note_targets-loop-target
invariant-note_targets-loop-target g l =
    HitsOn g.N.Notes.noted l.fn.notes (targets_spots (design_view l.design) (targets_of (map target_view l.fn.targets))) l.notes (targets_spots (design_view l.design) (targets_of (map target_view (drop l.target-index l.targets))))

-- each call is of a part
abbrev pub decreases-note_target : goal.decreases-note_target
decreases-note_target g l = 2 * size-Target l.target.now

abbrev pub decreases-note_targets : goal.decreases-note_targets
decreases-note_targets g l = 2 * goal.size-note_targets g l + 1
