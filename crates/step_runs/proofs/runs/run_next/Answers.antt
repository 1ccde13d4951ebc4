use Rattle.std.proofs.Common.{◌∙◌, [], subst, sym}
use Rattle.design_model.specs.Lawful.{IsLawfulDesign}
use Rattle.design_model.specs.View.{design_view}
use Rattle.early_sets.specs.WakeState.{state_of}
use Rattle.step_runs.proofs.Marking.{at_point, same_first, same_marks, same_points, same_ranges, step_after}
use Rattle.run_marks.specs.cover_marks.Marks.{AreMarksOf}
use Rattle.step_runs.proofs.runs.run_next.Goals as goal

pub returns-clause-points : goal.returns-clause-points
returns-clause-points g c =
    let m = c.args.notes.now in
    let r = c.run.new.notes in
    let took = c.run.ensures.took in
    same_points c.args.process m.points.now r.points.now r.process m.marks r.marks m.written r.written c.requires.marks (design_view c.args.rows.now.design.now) [] took.0 (λ s h. took.1.added s [] h)

pub returns-clause-marks : goal.returns-clause-marks
returns-clause-marks g c =
    let m = c.args.notes.now in
    let r = c.run.new.notes in
    let took = c.run.ensures.took in
    let d = design_view c.args.rows.now.design.now in
    subst (λ ps. AreMarksOf ps r.marks) (sym (same_points c.args.process m.points.now r.points.now r.process m.marks r.marks m.written r.written c.requires.marks d [] took.0 (λ s h. took.1.added s [] h)))
    (same_marks c.args.process m.points.now r.points.now r.process m.marks r.marks m.written r.written c.requires.marks d [] took.0 (λ s h. took.1.added s [] h))

pub returns-clause-step : goal.returns-clause-step
returns-clause-step g c = λ st w apart once step touched at.
    let m = c.args.notes.now in
    let r = c.run.new.notes in
    let sets = state_of c.args.found.now.sets.now in
    let point = at_point st m.points.now w c.args.store.now c.args.values.now c.args.found.now.words.now sets c.args.acted.now m.marks at in
    let lawful = subst IsLawfulDesign (sym c.requires.same ∙ at.step.values.knows.design) c.requires.lawful in
    let took = c.run.ensures.notes st w point step in
    step_after st m.points.now r.points.now w c.args.process r.process c.args.is_ordered sets c.args.store.now c.run.new.store c.args.values.now c.run.new.values c.args.found.now.words.now c.args.acted.now c.run.new.acted m.marks r.marks m.written r.written
    c.notes_law.ensures lawful step.runs touched apart once at (c.run.ensures.step st w point step touched) (λ s h. took.added s [] h)

pub returns-clause-first : goal.returns-clause-first
returns-clause-first g c =
    let m = c.args.notes.now in
    let r = c.run.new.notes in
    let took = c.run.ensures.took in
    same_first c.args.process m.points.now r.points.now r.process m.marks r.marks m.written r.written c.requires.marks (design_view c.args.rows.now.design.now) [] took.0 (λ s h. took.1.added s [] h)

pub returns-clause-ranges : goal.returns-clause-ranges
returns-clause-ranges g c =
    let m = c.args.notes.now in
    let r = c.run.new.notes in
    let took = c.run.ensures.took in
    same_ranges c.args.process m.points.now r.points.now r.process m.marks r.marks m.written r.written c.requires.marks (design_view c.args.rows.now.design.now) [] took.0 (λ s h. took.1.added s [] h)
