use Rattle.std.proofs.Common.{◌≡◌, ◌∙◌, ◌+◌, ◌++◌, ◌≤◌, ap, arith, drop, length, map, subst, sym, true}
use Rattle.std.proofs.lemmas.Bool.{and_parts}
use Rattle.std.proofs.lemmas.List.{at_drop_all, length-append}
use Rattle.design_model.specs.Assignment.{target_width, targets_width}
use Rattle.design_model.specs.Shape.{are_targets}
use Rattle.design_model.specs.Tree as tree
use Rattle.design_model.specs.View.{target_view, targets_of}
use Rattle.value_store.specs.body_replay.Replay.{index_first, index_marks, indexes_first, indexes_marks}
use Rattle.scene_laws.proofs.term_replay.Joining.{TellsOn, tells_further}
use Rattle.assignments.proofs.AllParts.{pieces_length, pieces_width}
use Rattle.assignments.proofs.Locating.{LocatesOn, locates_end, locates_further, targets_from}
use Rattle.assignments.proofs.target.+targets.Goals as goal

pub locate_all-loop-target-preserved : goal.locate_all-loop-target-preserved
locate_all-loop-target-preserved g t c =
    let v = g.R.Reads.scene c.args.reads.now in
    let h = c.loop-target.invariant in
    let x = c.target-item.result in
    let all = targets_of (map target_view c.args.targets.now) in
    let next = targets_from c.args.targets.now c.loop-target.target-index x c.loop-target-test.true c.target-item.is in
    let later = targets_of (map target_view (drop (c.loop-target.target-index + 1) c.args.targets.now)) in
    let both = and_parts _ _ (ap (are_targets v.design) (sym next) ∙ h.lawful) in
    let first = rw c.after.ensures at c.locate-first.ensures.first in
    let notes = rw c.after.ensures at c.locate-first.ensures.notes in
    let pieces = rw c.after.ensures at c.locate-first.ensures.pieces in
    let size = ap (λ q. length q.items) pieces.added ∙ length-append c.loop-target.pieces.items pieces.pieces in
    let few : length pieces.pieces ≤ target_width v.design (target_view x) = pieces_length v c.loop-target.first (target_view x) pieces.pieces c.requires.widths both.0 pieces.are in
    let room = h.room in
    let wide = ap (targets_width v.design) next in
    record {
      lawful = both.1;
      room = omega (arith, size, few, room, wide);
      first = ap (λ o. indexes_first v.design v.kept v.blames o later) first ∙ ap (indexes_first v.design v.kept v.blames c.loop-target.first) (sym next) ∙ h.first;
      notes = subst (λ o. TellsOn g.N.Notes.noted c.args.run.mode c.args.notes.now (indexes_marks v.design v.kept v.blames c.args.run.first all) c.locate-first.new.notes (indexes_marks v.design v.kept v.blames o later)) (sym first)
          (tells_further g.N.Notes.noted c.args.run.mode c.args.notes.now (indexes_marks v.design v.kept v.blames c.args.run.first all) c.loop-target.notes c.locate-first.new.notes (index_marks v.design v.kept v.blames c.loop-target.first (target_view x)) (indexes_marks v.design v.kept v.blames (index_first v.design v.kept v.blames c.loop-target.first (target_view x)) later)
          (subst (λ ts. TellsOn g.N.Notes.noted c.args.run.mode c.args.notes.now (indexes_marks v.design v.kept v.blames c.args.run.first all) c.loop-target.notes (indexes_marks v.design v.kept v.blames c.loop-target.first ts)) next h.notes) notes);
      pieces = locates_further v c.args.run.first all c.args.pieces.now c.loop-target.first c.locate-first.result (target_view x) later c.loop-target.pieces c.locate-first.new.pieces first pieces
          (subst (λ ts. LocatesOn v c.args.run.first all c.args.pieces.now c.loop-target.first ts c.loop-target.pieces) next h.pieces);
    }

pub locate_all-returns-clause-pieces : goal.locate_all-returns-clause-pieces
locate_all-returns-clause-pieces g t c =
    let v = g.R.Reads.scene c.args.reads.now in
    let end : targets_of (map target_view (drop c.loop-target.target-index c.args.targets.now)) ≡ tree.no_targets = at_drop_all (λ ys. targets_of (map target_view ys)) c.args.targets.now c.loop-target.target-index (omega arith) in
    locates_end v c.args.run.first (targets_of (map target_view c.args.targets.now)) c.args.pieces.now c.loop-target.first c.loop-target.pieces
    (subst (λ ts. LocatesOn v c.args.run.first (targets_of (map target_view c.args.targets.now)) c.args.pieces.now c.loop-target.first ts c.loop-target.pieces) end c.loop-target.invariant.pieces)
