use Rattle.std.proofs.Common.{◌≡◌, ◌≤◌, ◌∙◌, length, map, ap, refl, subst, sym, arith}
use Rattle.std.proofs.lemmas.List.{length-map}
use Rattle.design_model.specs.declared.design.Design.{Design as TheDesign}
use Rattle.design_model.specs.View.{design_view, process_view}
use Rattle.code_values.specs.Values.{Values}
use Rattle.dump_check.specs.Checks.{IsDifference}
use Rattle.first_step.specs.Begun.{IsFirstOf}
use Rattle.replay_follows.specs.Laws.{first_replay}
use Rattle.first_step.specs.step_values.Dumped.{AreDumped}
use Rattle.first_step.specs.step_values.Vectors.{FitsSignals}
use Rattle.first_step.specs.store_knowledge.Knows.{Knows}
use Rattle.replay_core.specs.Made.{made_with, subject_of}
use Rattle.replay_core.proofs.Given.{cells_given}
use Rattle.replay_core.proofs.Parts.{first_fits, given_cells}
use Rattle.replay_core.proofs.Starting.{compared_below, if_found, if_none, is_first, refuted_at, starts_at, starts_words}
use Rattle.replay_core.proofs.first.run_first_step.Goals as goal

pub begin_first-found-requires-clause-dumped : goal.begin_first-found-requires-clause-dumped
begin_first-found-requires-clause-dumped g c =
    let d = design_view c.args.design.now in
    let codes = c.args.tables.now.step.codes.items in
    let last = c.args.state.now.values.last in
    let rows = c.process_rows-rows in (
      cells_given codes last,
      subst (λ e. AreDumped (design_view e) rows.result.codes.now last (cells_given codes last)) (sym rows.ensures.design)
          (subst (λ cs. AreDumped d cs last (cells_given codes last)) (sym rows.ensures.codes) (given_cells d c.args.state.now.notes.points.now c.args.tables.now c.args.state.now c.requires.fits.state c.requires.given)),
    )

pub returns-clause-fits : goal.returns-clause-fits
returns-clause-fits g c =
    let d = design_view c.args.design.now in
    let b = c.begin_first-found in
    let same : design_view b.new.store.design.now ≡ d = b.ensures.same ∙ ap design_view c.process_rows-rows.ensures.design in
    let h = b.ensures.known.2 in
    first_fits d c.args.state.now.notes.points.now c.args.tables.now c.args.room.now c.args.state.now b.new.values b.new.scratch b.new.ran b.new.check_order c.close.new.self b.new.store b.ensures.known.1 c.requires.fits
    (subst (λ e. FitsSignals e b.new.values) same b.ensures.fits) b.ensures.room b.ensures.pieces b.ensures.places b.ensures.size (subst (λ e. Knows e b.ensures.known.1 b.new.store) (sym h.design ∙ same) h) (ap (λ (v : Values). v.last) c.close.ensures)
    (ap (λ (v : Values). v.closed) c.close.ensures)

pub returns-clause-starts : goal.returns-clause-starts
returns-clause-starts g c =
    let d = design_view c.args.design.now in
    let s = c.args.state.now in
    let r = c.args.room.now in
    let points = s.notes.points.now in
    let x = c.args.tables.now in
    let b = c.begin_first-found in
    let fits = c.requires.fits in
    let codes = c.process_rows-rows.ensures.codes in
    let flags = c.as_slice.ensures.value in
    let runs = c.runs_lawful.ensures d c.requires.replayable.lawful in
    if_none b.result b.ensures.none (λ none h t dump a of pauses first shown given.
    let is = is_first d h points x c.requires.replayable runs fits.tables dump t of first shown r s a pauses given c.requires.forgotten in
    let coded = subst (λ cs. IsFirstOf d dump.bound (dump.values t) a cs s.values.last s.acted.items s.store) (sym codes) is in
    let here = subst (λ fs. IsFirstOf d dump.bound (dump.values t) a c.process_rows-rows.result.codes.now s.values.last fs s.store) (sym flags) coded in (
      first_replay (subject_of (made_with d h points x) dump) t a,
      record {
        parts = starts_at d h points x c.requires.replayable runs fits.tables dump t of first shown r s a pauses given _ c.requires.forgotten fits.state.unsigned (ap (λ (v : Values). v.closed) c.close.ensures) refl refl refl refl
            fits.room.sets fits.room.writers (b.ensures.started d dump.bound (dump.values t) a here) (none d dump.bound (dump.values t) a here);
        words = starts_words d h points x c.requires.replayable runs fits.tables dump t of first shown r s a pauses given c.requires.forgotten c.words_law.ensures.first;
      },
    ))

pub returns-clause-refutes : goal.returns-clause-refutes
returns-clause-refutes g c =
    let d = design_view c.args.design.now in
    let s = c.args.state.now in
    let r = c.args.room.now in
    let points = s.notes.points.now in
    let x = c.args.tables.now in
    let b = c.begin_first-found in
    let fits = c.requires.fits in
    let codes = c.process_rows-rows.ensures.codes in
    let flags = c.as_slice.ensures.value in
    let runs = c.runs_lawful.ensures d c.requires.replayable.lawful in
    if_found b.result b.ensures.some b.ensures.first (λ found some differs h t dump a of pauses first shown given.
    let is = is_first d h points x c.requires.replayable runs fits.tables dump t of first shown r s a pauses given c.requires.forgotten in
    let coded = subst (λ cs. IsFirstOf d dump.bound (dump.values t) a cs s.values.last s.acted.items s.store) (sym codes) is in
    let cell = some d dump.bound (dump.values t) a (subst (λ fs. IsFirstOf d dump.bound (dump.values t) a c.process_rows-rows.result.codes.now s.values.last fs s.store) (sym flags) coded) in
    refuted_at d h points x c.requires.replayable runs fits.tables dump t of first shown r s a pauses given cell.0 found b.new.values.made cell.2 (subst (λ cs. IsDifference cs s.values.last b.new.values.made found) codes differs.differs))

pub returns-clause-named : goal.returns-clause-named
returns-clause-named g c =
    let b = c.begin_first-found in
    let last = c.args.state.now.values.last in
    let codes = c.process_rows-rows.ensures.codes in
    if_found b.result b.ensures.first b.ensures.first (λ found differs same. compared_below (design_view c.args.design.now) c.args.tables.now last found b.new.values.made c.requires.fits.tables (subst (λ cs. IsDifference cs last b.new.values.made found) codes differs.differs))

pub returns-clause-steps : goal.returns-clause-steps
returns-clause-steps g c =
    let D = c.args.design.now in
    let b = c.begin_first-found in
    let few = subst (λ (e : TheDesign). length b.new.ran.items ≤ length e.processes) c.process_rows-rows.ensures.design b.ensures.few in
    let count = b.ensures.steps in
    let size : length (map process_view D.processes) ≡ length D.processes = length-map D.processes process_view in
    omega (arith, few, count, size)
