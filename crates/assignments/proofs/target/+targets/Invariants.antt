use Rattle.std.proofs.Common.{◌≡◌, ◌+◌, ◌*◌, ◌≤◌, drop, length, map, true}
use Rattle.design_model.specs.Assignment.{targets_width}
use Rattle.design_model.specs.Shape.{are_targets}
use Rattle.design_model.specs.View.{target_view, targets_of}
use Rattle.design_model.specs.declared.tree.Target.{size-Target}
use Rattle.value_store.specs.body_replay.Replay.{indexes_first, indexes_marks}
use Rattle.scene_laws.proofs.term_replay.Joining.{TellsOn}
use Rattle.assignments.proofs.Locating.{LocatesOn}
use Rattle.assignments.proofs.target.+targets.Given as goal

-- the parts so far, and those of the rest, are those of all targets
abbrev pub invariant-locate_all-loop-target : goal.invariant-locate_all-loop-target
invariant-locate_all-loop-target g l =
    record {
      lawful : are_targets (g.R.Reads.scene l.reads).design (targets_of (map target_view (drop l.target-index l.targets))) ≡ true;
      room : length l.pieces.items + targets_width (g.R.Reads.scene l.reads).design (targets_of (map target_view (drop l.target-index l.targets))) ≤ l.fn.pieces.room;
      first : indexes_first (g.R.Reads.scene l.reads).design (g.R.Reads.scene l.reads).kept (g.R.Reads.scene l.reads).blames l.first (targets_of (map target_view (drop l.target-index l.targets))) ≡ indexes_first (g.R.Reads.scene l.reads).design (g.R.Reads.scene l.reads).kept (g.R.Reads.scene l.reads).blames l.fn.run.first (targets_of (map target_view l.targets));
      notes : TellsOn g.N.Notes.noted l.fn.run.mode l.fn.notes (indexes_marks (g.R.Reads.scene l.reads).design (g.R.Reads.scene l.reads).kept (g.R.Reads.scene l.reads).blames l.fn.run.first (targets_of (map target_view l.targets))) l.notes (indexes_marks (g.R.Reads.scene l.reads).design (g.R.Reads.scene l.reads).kept (g.R.Reads.scene l.reads).blames l.first (targets_of (map target_view (drop l.target-index l.targets))));
      pieces : LocatesOn (g.R.Reads.scene l.reads) l.fn.run.first (targets_of (map target_view l.targets)) l.fn.pieces l.first (targets_of (map target_view (drop l.target-index l.targets))) l.pieces;
    }

-- each call is of a part
abbrev pub decreases-locate : goal.decreases-locate
decreases-locate g l = 2 * size-Target l.target.now

abbrev pub decreases-locate_all : goal.decreases-locate_all
decreases-locate_all g l = 2 * goal.size-locate_all g l + 1
