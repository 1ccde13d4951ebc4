use Rattle.std.proofs.Common.{Some, [], map, refl, subst, sym, ◌++◌}
use Rattle.design_model.specs.Design.{body}
use Rattle.design_model.specs.View.{design_view, process_view}
use Rattle.body_replay.specs.Contract.{body_spots, notes_of}
use Rattle.body_replay.specs.Replay.{hit}
use Rattle.block_runs.specs.Notes.{way_of}
use Rattle.block_runs.proofs.Noting.{none_noted}
use Rattle.block_runs.proofs.weak.run_weak.Goals as goal

pub returns-clause-notes : goal.returns-clause-notes
returns-clause-notes g c =
    let s = body (process_view c.args.process.now) in
    let how = way_of c.args.how in
    record {
      added = λ start earlier h.
          let noted = g.N.BlockNotes.noted start in
          let begins_noted = subst (λ z. noted z c.args.notes.now) (sym (none_noted how earlier)) h in
          let r = c.note_spots.ensures.added (Some (record { start = start; earlier = earlier; how = c.args.how; name = c.sink-1.given })) [] (refl, refl, begins_noted) in
          let plain = design_view c.args.design.now in
          subst (λ d. noted (earlier ++ notes_of how (map hit (body_spots d s))) c.notes-1.given.0) (sym c.requires.same) (subst (noted (earlier ++ notes_of how (map hit (body_spots plain s)))) (sym (c.notes-1.given.1 (sym r.1))) r.2);
    }
