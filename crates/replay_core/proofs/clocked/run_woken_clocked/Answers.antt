use Rattle.std.proofs.Common.{◌≡◌, ◌∙◌, length, map, refl, subst, sym, arith}
use Rattle.std.proofs.lemmas.List.{length-map}
use Rattle.design_model.specs.View.{design_view, process_view}
use Rattle.early_sets.specs.WakeState.{state_of}
use Rattle.first_step.specs.step_values.Dumped.{AreDumped}
use Rattle.first_step.specs.store_knowledge.Knows.{Knows}
use Rattle.step_clocked.specs.Runs.{AreStepSets, IsClockedStep}
use Rattle.replay_core.proofs.Given.{cells_given}
use Rattle.replay_core.proofs.Parts.{closed_cells, given_cells, room_run, run_fits, words_same}
use Rattle.replay_core.proofs.clocked.run_woken_clocked.Goals as goal

-- ---- what the runs ask

pub run_clocked-requires-clause-count : goal.run_clocked-requires-clause-count
run_clocked-requires-clause-count g c = c.requires.fits.room.clocked ∙ length-map c.args.design.now.processes process_view

pub run_clocked-requires-clause-places : goal.run_clocked-requires-clause-places
run_clocked-requires-clause-places g c =
    let D = c.args.design.now in
    let size : length (map process_view D.processes) ≡ length D.processes = length-map D.processes process_view in
    let room = c.requires.fits.room.places in
    omega (arith, size, room)

pub run_clocked-requires-clause-ranks : goal.run_clocked-requires-clause-ranks
run_clocked-requires-clause-ranks g c = c.requires.fits.room.ranks

pub run_clocked-requires-clause-none_by_round : goal.run_clocked-requires-clause-none_by_round
run_clocked-requires-clause-none_by_round g c = c.requires.fits.room.none_by_round

pub run_clocked-requires-clause-later : goal.run_clocked-requires-clause-later
run_clocked-requires-clause-later g c =
    let D = c.args.design.now in
    let size : length (map process_view D.processes) ≡ length D.processes = length-map D.processes process_view in
    let room = c.requires.fits.room.later in
    omega (arith, size, room)

pub run_clocked-requires-clause-ran : goal.run_clocked-requires-clause-ran
run_clocked-requires-clause-ran g c =
    let D = c.args.design.now in
    let size : length (map process_view D.processes) ≡ length D.processes = length-map D.processes process_view in
    let room = c.requires.fits.room.ran in
    omega (arith, size, room)

pub run_clocked-requires-clause-same : goal.run_clocked-requires-clause-same
run_clocked-requires-clause-same g c = c.requires.fits.state.known.design

pub run_clocked-requires-clause-known : goal.run_clocked-requires-clause-known
run_clocked-requires-clause-known g c = (design_view c.args.design.now, c.requires.fits.state.kept, c.requires.fits.state.known)

pub run_clocked-requires-clause-sets : goal.run_clocked-requires-clause-sets
run_clocked-requires-clause-sets g c =
    subst (λ codes. AreStepSets (design_view c.args.design.now) codes (state_of c.args.room.now.step.sets)) (sym c.as_slice.ensures.value) c.requires.sets

pub run_clocked-requires-clause-written : goal.run_clocked-requires-clause-written
run_clocked-requires-clause-written g c = record { count = c.requires.fits.tables.written.count; each = c.requires.fits.tables.written.each }

pub run_clocked-requires-clause-before : goal.run_clocked-requires-clause-before
run_clocked-requires-clause-before g c =
    let d = design_view c.args.design.now in
    let s = c.args.state.now in
    let x = c.args.tables.now in
    let codes = x.step.codes.items in (
      cells_given codes s.values.closed,
      subst (λ cs. AreDumped d cs s.values.closed (cells_given codes s.values.closed)) (sym c.as_slice.ensures.value) (closed_cells d s.notes.points.now x s c.requires.fits.state c.requires.closed),
    )

pub run_clocked-requires-clause-after : goal.run_clocked-requires-clause-after
run_clocked-requires-clause-after g c =
    let d = design_view c.args.design.now in
    let s = c.args.state.now in
    let x = c.args.tables.now in
    let codes = x.step.codes.items in (
      cells_given codes s.values.last,
      subst (λ cs. AreDumped d cs s.values.last (cells_given codes s.values.last)) (sym c.as_slice.ensures.value) (given_cells d s.notes.points.now x s c.requires.fits.state c.requires.given),
    )

pub run_clocked-requires-clause-none : goal.run_clocked-requires-clause-none
run_clocked-requires-clause-none g c = c.requires.fits.room.empty

pub run_clocked-requires-clause-parts : goal.run_clocked-requires-clause-parts
run_clocked-requires-clause-parts g c = c.requires.fits.room.pieces

pub run_clocked-requires-clause-marks : goal.run_clocked-requires-clause-marks
run_clocked-requires-clause-marks g c = c.requires.fits.state.marks

-- ---- the parts after it

pub returns-clause-fits : goal.returns-clause-fits
returns-clause-fits g c =
    let d = design_view c.args.design.now in
    let r = c.args.room.now in
    let s = c.args.state.now in
    let x = c.args.tables.now in
    let e = c.run_clocked.ensures in
    let new = c.run_clocked.new in
    let q = record r { step = record r.step { clocked = new.list; sets = new.sets }; by_round = new.by_round; later = new.later; ran = new.ran; scratch = record r.scratch { pieces = new.pieces } } in
    let u = record s { store = new.store; notes = new.notes } in
    let h = e.known.2 in
    let knows = subst (λ b. Knows b e.known.1 new.store) (sym h.design ∙ e.same) h in
    run_fits d s.notes.points.now x r q s u e.known.1 c.requires.fits (room_run d x r q c.requires.fits.room refl e.count e.rest e.by_round refl e.pieces e.later e.places refl) knows refl refl refl e.points
    (subst (λ ps. Rattle.cover_marks.specs.Marks.AreMarksOf ps new.notes.marks) e.points e.marks) refl c.requires.fits.state.wide_closed
    (words_same d x s.notes.written new.notes.written r.words r.words c.requires.fits.words e.first e.ranges refl)

-- ---- the words that are not written

pub returns-clause-unwritten : goal.returns-clause-unwritten
returns-clause-unwritten g c = λ st is are knows marks.
    let s = c.args.state.now in
    c.run_clocked.ensures.unwritten st (subst (λ codes. IsClockedStep st s.notes.points.now (state_of c.args.room.now.step.sets) c.args.habit codes s.values c.args.time) (sym c.as_slice.ensures.value) is) are knows marks

-- ---- what is known and reported after it

pub returns-clause-knows : goal.returns-clause-knows
returns-clause-knows g c = λ st is are knows marks.
    let s = c.args.state.now in
    c.run_clocked.ensures.knows st (subst (λ codes. IsClockedStep st s.notes.points.now (state_of c.args.room.now.step.sets) c.args.habit codes s.values c.args.time) (sym c.as_slice.ensures.value) is) are knows marks

pub returns-clause-verdicts : goal.returns-clause-verdicts
returns-clause-verdicts g c = λ st is are knows marks.
    let s = c.args.state.now in
    c.run_clocked.ensures.verdicts st (subst (λ codes. IsClockedStep st s.notes.points.now (state_of c.args.room.now.step.sets) c.args.habit codes s.values c.args.time) (sym c.as_slice.ensures.value) is) are knows marks
