use Rattle.std.proofs.Common.{refl, subst, sym}
use Rattle.cover_marks.specs.Marks.{AreMarksOf}
use Rattle.design_model.specs.View.{design_view}
use Rattle.step_words.specs.Words.{FitsRanges}
use Rattle.replay_core.proofs.Parts.{room_compared, run_fits, words_kept}
use Rattle.replay_core.proofs.step.compare_words.Goals as goal

pub compare_noted-requires-clause-known : goal.compare_noted-requires-clause-known
compare_noted-requires-clause-known c = (design_view c.args.state.now.store.design.now, c.requires.fits.state.kept, c.requires.fits.state.known)

pub returns-clause-fits : goal.returns-clause-fits
returns-clause-fits c =
    let s = c.args.state.now in
    let r = c.args.room.now in
    let x = c.args.tables.now in
    let d = design_view s.store.design.now in
    let points = s.notes.points.now in
    let fits = c.requires.fits in
    let state = fits.state in
    let words = c.compare_noted.new.words in
    let notes = c.compare_noted.new.notes in
    let e = c.compare_noted.ensures in
    let u = record s { notes = notes } in
    run_fits d points x r (record r { words = words }) s u state.kept fits (room_compared d x r words fits.room) state.known refl refl refl e.points (subst (AreMarksOf points) (sym e.marks) state.marks) refl state.wide_closed
    (words_kept d x s.notes.written notes.written r.words words fits.words e.first e.ranges (subst (λ rs. FitsRanges d rs words) (sym e.ranges) e.fits))
