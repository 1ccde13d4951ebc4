use Rattle.std.proofs.Common.{◌≡◌, ◌∙◌, ◌+◌, ◌<◌, ◌||◌, not, ℕ, Some, flat_map, length, map, ap, refl, subst, sym, arith}
use Rattle.std.specs.List.{All}
use Rattle.std.proofs.lemmas.List.{length-map}
use Rattle.std.proofs.lemmas.List.Elements.{All-weaker}
use Rattle.code_values.specs.Values.{Values}
use Rattle.cover_marks.specs.Marks.{AreMarksOf}
use Rattle.cover_points.specs.Listed.{IsPointList}
use Rattle.design_model.specs.Design.{Design}
use Rattle.design_model.specs.View.{design_view, process_view}
use Rattle.dump_check.specs.Checks.{AgreesAt, IsFirstDifference, last_of_each}
use Rattle.early_sets.specs.WakeState.{state_of}
use Rattle.index_sets.specs.Rows.{row_at}
use Rattle.replay_model.specs.Step.{Closing}
use Rattle.machine_laws.specs.Followed.{MarksMachines}
use Rattle.step_machines.specs.Marked.{FitsMachines, IsOver as IsMachineStep}
use Rattle.step_marks.specs.Marked.{IsOver, IsSeenAfter}
use Rattle.first_step.specs.step_changes.Changes.{AreChangedSignals}
use Rattle.first_step.specs.step_values.Dumped.{AreDumped}
use Rattle.step_marks.specs.toggle_laws.Turns.{MarksInTurn}
use Rattle.step_start.specs.Fits.{FitsStep}
use Rattle.step_start.specs.step_parts.Due.{HasBegun, IsContradicted, step_of}
use Rattle.step_start.specs.still_check.Stays.{IsLeastMoved}
use Rattle.step_start.specs.declared.room.StepRoom.{StepRoom}
use Rattle.replay_core.specs.Closing.{Closes}
use Rattle.replay_core.specs.Fits.{AreWideValues, FitsParts, HaveValues}
use Rattle.replay_core.specs.Made.{made_with, parts_with}
use Rattle.written_words.specs.Written.{WrittenState}
use Rattle.replay_core.specs.declared.room.ReplayRoom.{ReplayRoom}
use Rattle.replay_core.specs.declared.state.ReplayState.{ReplayState}
use Rattle.replay_core.proofs.Given.{cells_given}
use Rattle.replay_core.proofs.Parts.{fits_same, fits_step, given_cells, run_fits, words_same}
use Rattle.replay_core.proofs.Sets.{sets_of_step}
use Rattle.replay_core.proofs.Stepping.{checked_fits, clocked_inside, clocked_ran, closes_run, counts_clocked, counts_run, for_step, found_parts, list_settles, listed_of, refutes_begun, refutes_run, settled_changed, settled_parts, steps_both}
use Rattle.replay_core.proofs.step.run_step.Goals as goal

-- ---- what the calls ask

pub find_step-requires-clause-fits : goal.find_step-requires-clause-fits
find_step-requires-clause-fits g c =
    let s = c.args.state.now in
    let x = c.args.tables.now in
    let r = c.args.room.now in
    let fits = c.requires.fits in
    subst (λ e. FitsStep e x.step r.step s.values) (sym fits.state.known.design) (fits_step (design_view c.args.design.now) s.notes.points.now x r s c.requires.replayable.lawful fits)

pub run_woken_clocked-requires : goal.run_woken_clocked-requires
run_woken_clocked-requires g c =
    let D = c.args.design.now in
    let d = design_view D in
    let s = c.args.state.now in
    let r = c.args.room.now in
    let x = c.args.tables.now in
    let points = s.notes.points.now in
    let n = c.find_step.new.room in
    let e = c.find_step.ensures in
    let fits = found_parts d points x r s n c.requires.fits e.fits e.writers e.inputs in
    record {
      replayable = c.requires.replayable;
      fits = fits;
      below = clocked_inside d points x r s n fits e.listed (length D.processes) (length-map D.processes process_view);
      sets = sets_of_step d x.step.codes.items (state_of n.sets) fits.room.sets fits.room.writers e.derived e.rounds e.noted;
      closed = c.requires.closed;
      given = c.requires.given;
    }

pub compare_words-requires : goal.compare_words-requires
compare_words-requires g c =
    let w = c.run_woken_clocked in
    let u = w.new.state in
    let points = c.args.state.now.notes.points.now in
    record {
      fits = fits_same (design_view c.args.design.now) (design_view u.store.design.now) points u.notes.points.now c.args.tables.now w.new.room u (sym w.ensures.fits.state.known.design) (sym w.ensures.points) w.ensures.fits;
    }

pub settle_step-requires : goal.settle_step-requires
settle_step-requires g c =
    let D = c.args.design.now in
    let d = design_view D in
    let s = c.args.state.now in
    let x = c.args.tables.now in
    let points = s.notes.points.now in
    let codes = x.step.codes.items in
    let w = c.run_woken_clocked in
    let v = c.compare_words in
    let q = v.new.room in
    let u = v.new.state in
    let fits = fits_same (design_view w.new.state.store.design.now) d w.new.state.notes.points.now points x q u w.ensures.fits.state.known.design w.ensures.points v.ensures.fits in
    let design = fits.state.known.design in
    let same = ap (λ (y : ReplayState). y.values) v.ensures.state ∙ w.ensures.values in
    let step = ap (λ (y : ReplayRoom). y.step) v.ensures.room in
    let size : length (map process_view D.processes) ≡ length D.processes = length-map D.processes process_view in
    let many : length (map process_view u.store.design.now.processes) ≡ length u.store.design.now.processes = length-map u.store.design.now.processes process_view in
    let here = ap (λ (e : Design). length e.processes) design in
    record {
      fits = subst (λ e. FitsStep e x.step q.step u.values) (sym design) (fits_step d points x q u c.requires.replayable.lawful fits);
      within =
          subst (All (λ (p : ℕ). p < length u.store.design.now.processes)) (sym c.as_slice.ensures)
          (All-weaker (λ (p : ℕ). p < length D.processes) (λ (p : ℕ). p < length u.store.design.now.processes) (λ p l. omega (arith, l, size, many, here)) q.ran.items
          (subst (λ (y : ReplayRoom). All (λ (p : ℕ). p < length D.processes) y.ran.items) (sym v.ensures.room) w.ensures.within));
      empty = ap (λ (k : StepRoom). k.list.pairs) (step ∙ w.ensures.step) ∙ ap (λ l. l.pairs) c.find_step.ensures.list ∙ c.requires.none;
      known = (d, fits.state.kept, fits.state.known);
      dumped = (
        cells_given codes u.values.last,
        subst (λ e. AreDumped e codes u.values.last (cells_given codes u.values.last)) (sym design) (given_cells d points x u fits.state (subst (λ (vs : Values). HaveValues codes vs.last) (sym same) c.requires.given)),
      );
      changed = subst (λ (k : StepRoom). AreChangedSignals codes u.values k.changed.items) (sym (step ∙ w.ensures.step)) (subst (λ vs. AreChangedSignals codes vs c.find_step.new.room.changed.items) (sym same) c.find_step.ensures.changed);
    }

-- ---- the parts once it has begun

pub returns-in-Some-clause-fits : goal.returns-in-Some-clause-fits
returns-in-Some-clause-fits g c =
    let k = c.settle_step in
    let w = c.run_woken_clocked in
    let v = c.compare_words in
    let d = design_view c.args.design.now in
    let points = c.args.state.now.notes.points.now in
    let x = c.args.tables.now in
    let fits = fits_same (design_view w.new.state.store.design.now) d w.new.state.notes.points.now points x v.new.room v.new.state w.ensures.fits.state.known.design w.ensures.points v.ensures.fits in
    settled_parts d points x v.new.room v.new.state k.new.room k.new.store fits k.ensures.fits k.ensures.design k.ensures.sets k.ensures.known

pub run_woken-requires-clause-fits : goal.run_woken-requires-clause-fits
run_woken-requires-clause-fits g c =
    let k = c.settle_step in
    let w = c.run_woken_clocked in
    let v = c.compare_words in
    let d = design_view c.args.design.now in
    let points = c.args.state.now.notes.points.now in
    let x = c.args.tables.now in
    let fits = fits_same (design_view w.new.state.store.design.now) d w.new.state.notes.points.now points x v.new.room v.new.state w.ensures.fits.state.known.design w.ensures.points v.ensures.fits in
    subst (λ ps. FitsParts d ps x (record v.new.room { step = k.new.room }) (record v.new.state { store = k.new.store })) (sym (v.ensures.points ∙ w.ensures.points))
    (settled_parts d points x v.new.room v.new.state k.new.room k.new.store fits k.ensures.fits k.ensures.design k.ensures.sets k.ensures.known)

pub run_woken-requires-clause-settles : goal.run_woken-requires-clause-settles
run_woken-requires-clause-settles g c =
    let u = c.compare_words.new.state in
    let design = ap (λ (y : ReplayState). design_view y.store.design.now) c.compare_words.ensures.state ∙ c.run_woken_clocked.ensures.fits.state.known.design in
    list_settles (design_view c.args.design.now) c.args.tables.now c.settle_step.new.room u.store c.requires.fits.tables design c.in_default.ensures.listed

pub mark_step-requires-clause-listed : goal.mark_step-requires-clause-listed
mark_step-requires-clause-listed g c =
    let noted = c.run_woken.ensures.fits.state.noted ∙ c.compare_words.ensures.points ∙ c.run_woken_clocked.ensures.points in
    (c.requires.replayable.machines, subst (λ ps. IsPointList (design_view c.args.design.now) c.requires.replayable.machines ps) (sym noted) c.requires.replayable.listed)

pub mark_machines-requires-clause-design : goal.mark_machines-requires-clause-design
mark_machines-requires-clause-design g c =
    let state = c.run_woken.ensures.fits.state in
    let replayable = c.requires.replayable in
    let d = design_view c.args.design.now in
    let points = c.args.state.now.notes.points.now in
    let compared = c.compare_words.ensures.points ∙ c.run_woken_clocked.ensures.points in
    let noted = c.mark_step.ensures.points ∙ state.noted ∙ compared in
    let here = subst (λ ps. FitsMachines d ps c.run_woken.new.state.machines.index) compared (record {
      lawful = replayable.lawful;
      machines = replayable.machines;
      listed = subst (λ ps. IsPointList d replayable.machines ps) (sym compared) replayable.listed;
      few = state.few_machines;
      index = state.machines;
    }) in
    subst (λ ps. FitsMachines d ps c.run_woken.new.state.machines.index) (sym noted) here

pub check_step-requires-clause-ran : goal.check_step-requires-clause-ran
check_step-requires-clause-ran g c =
    let D = c.args.design.now in
    let z = c.run_woken in
    let a = z.new.state.store.design.now in
    let size : length (map process_view D.processes) ≡ length D.processes = length-map D.processes process_view in
    let many : length (map process_view a.processes) ≡ length a.processes = length-map a.processes process_view in
    let here = ap (λ (e : Design). length e.processes) z.ensures.fits.state.known.design in
    All-weaker (λ (p : ℕ). p < length D.processes) (λ (p : ℕ). p < length a.processes) (λ p l. omega (arith, l, size, many, here)) z.new.room.ran.items z.ensures.within

-- ---- no Clocked waits

pub returns-in-Some-check_step-clause-none_clocked : goal.returns-in-Some-check_step-clause-none_clocked
returns-in-Some-check_step-clause-none_clocked g c =
    ap (λ (r : ReplayRoom). r.step.clocked.pairs) c.check_step.ensures.room ∙ ap (λ l. l.pairs) c.run_woken.ensures.clocked ∙ ap (λ l. l.pairs) c.settle_step.ensures.clocked ∙ ap (λ (r : ReplayRoom). r.step.clocked.pairs) c.compare_words.ensures.room ∙ c.run_woken_clocked.ensures.none

pub returns-clause-none_clocked : goal.returns-clause-none_clocked
returns-clause-none_clocked g c =
    ap (λ (r : ReplayRoom). r.step.clocked.pairs) c.check_step.ensures.room ∙ ap (λ l. l.pairs) c.run_woken.ensures.clocked ∙ ap (λ l. l.pairs) c.settle_step.ensures.clocked ∙ ap (λ (r : ReplayRoom). r.step.clocked.pairs) c.compare_words.ensures.room ∙ c.run_woken_clocked.ensures.none

-- ---- each dump that was followed

pub returns-in-Some-clause-refutes : goal.returns-in-Some-clause-refutes
returns-in-Some-clause-refutes g c =
    let d = design_view c.args.design.now in
    let habit = c.args.habit in
    let r = c.args.room.now in
    let s = c.args.state.now in
    let x = c.args.tables.now in
    let points = s.notes.points.now in
    let time = c.args.time in
    let n = c.find_step.new.room in
    let e = c.find_step.ensures in
    let fits = found_parts d points x r s n c.requires.fits e.fits e.writers e.inputs in
    let w = c.run_woken_clocked.ensures in
    let v = c.compare_words.ensures in
    let q = c.compare_words.new.room in
    let u = c.compare_words.new.state in
    let written = c.run_woken_clocked.new.state.notes.written in
    let ran = clocked_ran d habit points x r s n time c.run_woken_clocked.new.room q c.run_woken_clocked.new.state u fits e.listed c.requires.replayable.lawful e.moves e.found w.chosen w.step w.rest w.members w.once w.fits
    w.knows w.verdicts w.unwritten w.words w.ranges v.room v.state v.marks v.ranges v.words v.changes in
    let given = ap (λ (y : ReplayState). y.values) v.state ∙ w.values in
    let acted = ap (λ (y : ReplayState). y.acted) v.state ∙ w.acted in
    let noted = v.points ∙ w.points in
    let steps = w.steps ∙ ap (λ (y : ReplayRoom). c.args.steps.now + length y.ran.items) (sym v.room) in
    let k = c.settle_step.new.room in
    let one = c.in-Some.found in
    refutes_begun d habit points x r s n time c.args.listed q u written ran k one
    (for_step d habit points x r s n time c.args.listed q u written ran (λ o early marks. IsContradicted o (state_of k.sets) early one) u.values c.as_slice.result.now given c.as_slice.ensures c.in-Some.ensures.contradicted)
    (for_step d habit points x r s n time c.args.listed q u written ran (λ o early marks. IsLeastMoved (step_of o (state_of k.sets) early) k.changed.items k.overwritten.items (Some one)) u.values c.as_slice.result.now given c.as_slice.ensures c.in-Some.ensures.least)

pub returns-in-Some-clause-counts : goal.returns-in-Some-clause-counts
returns-in-Some-clause-counts g c =
    let d = design_view c.args.design.now in
    let habit = c.args.habit in
    let r = c.args.room.now in
    let s = c.args.state.now in
    let x = c.args.tables.now in
    let points = s.notes.points.now in
    let time = c.args.time in
    let n = c.find_step.new.room in
    let e = c.find_step.ensures in
    let fits = found_parts d points x r s n c.requires.fits e.fits e.writers e.inputs in
    let w = c.run_woken_clocked.ensures in
    let v = c.compare_words.ensures in
    let q = c.compare_words.new.room in
    let u = c.compare_words.new.state in
    let written = c.run_woken_clocked.new.state.notes.written in
    let ran = clocked_ran d habit points x r s n time c.run_woken_clocked.new.room q c.run_woken_clocked.new.state u fits e.listed c.requires.replayable.lawful e.moves e.found w.chosen w.step w.rest w.members w.once w.fits
    w.knows w.verdicts w.unwritten w.words w.ranges v.room v.state v.marks v.ranges v.words v.changes in
    let given = ap (λ (y : ReplayState). y.values) v.state ∙ w.values in
    let acted = ap (λ (y : ReplayState). y.acted) v.state ∙ w.acted in
    let noted = v.points ∙ w.points in
    let steps = w.steps ∙ ap (λ (y : ReplayRoom). c.args.steps.now + length y.ran.items) (sym v.room) in
    counts_clocked d habit points x r s n time c.args.listed q u written ran c.args.steps.now c.run_woken_clocked.new.steps steps

pub returns-in-Some-check_step-clause-refutes : goal.returns-in-Some-check_step-clause-refutes
returns-in-Some-check_step-clause-refutes g c =
    let d = design_view c.args.design.now in
    let habit = c.args.habit in
    let r = c.args.room.now in
    let s = c.args.state.now in
    let x = c.args.tables.now in
    let points = s.notes.points.now in
    let time = c.args.time in
    let n = c.find_step.new.room in
    let e = c.find_step.ensures in
    let fits = found_parts d points x r s n c.requires.fits e.fits e.writers e.inputs in
    let w = c.run_woken_clocked.ensures in
    let v = c.compare_words.ensures in
    let q = c.compare_words.new.room in
    let u = c.compare_words.new.state in
    let written = c.run_woken_clocked.new.state.notes.written in
    let ran = clocked_ran d habit points x r s n time c.run_woken_clocked.new.room q c.run_woken_clocked.new.state u fits e.listed c.requires.replayable.lawful e.moves e.found w.chosen w.step w.rest w.members w.once w.fits
    w.knows w.verdicts w.unwritten w.words w.ranges v.room v.state v.marks v.ranges v.words v.changes in
    let given = ap (λ (y : ReplayState). y.values) v.state ∙ w.values in
    let acted = ap (λ (y : ReplayState). y.acted) v.state ∙ w.acted in
    let noted = v.points ∙ w.points in
    let steps = w.steps ∙ ap (λ (y : ReplayRoom). c.args.steps.now + length y.ran.items) (sym v.room) in
    let k = c.settle_step.new.room in
    let store = c.settle_step.new.store in
    let changed = settled_changed x.step.codes.items s.values u.values n q k given ran.step c.settle_step.ensures.changed e.changed in
    let begun = for_step d habit points x r s n time c.args.listed q u written ran (λ o early marks. HasBegun o (state_of k.sets) early (listed_of k) k.values store marks) u.values c.as_slice.result.now given c.as_slice.ensures c.in_default.ensures.begun in
    let z = c.run_woken in
    let one = c.in-Some-check_step.found in
    refutes_run d habit points x r s n time c.args.listed q u written ran k store c.requires.fits.tables changed begun z.new.room z.new.state c.words_law.ensures.start c.settle_step.ensures.sets (ap (λ a. a.items) acted) z.ensures.sets noted z.ensures.step z.ensures.ran one
    (subst (λ (vs : Values). IsFirstDifference x.step.codes.items vs.last z.new.room.step.values.made (last_of_each (flat_map (row_at x.checks) z.new.room.ran.items)) one) (z.ensures.values ∙ given) c.in-Some-check_step.ensures.some)

pub returns-in-Some-check_step-clause-counts : goal.returns-in-Some-check_step-clause-counts
returns-in-Some-check_step-clause-counts g c =
    let d = design_view c.args.design.now in
    let habit = c.args.habit in
    let r = c.args.room.now in
    let s = c.args.state.now in
    let x = c.args.tables.now in
    let points = s.notes.points.now in
    let time = c.args.time in
    let n = c.find_step.new.room in
    let e = c.find_step.ensures in
    let fits = found_parts d points x r s n c.requires.fits e.fits e.writers e.inputs in
    let w = c.run_woken_clocked.ensures in
    let v = c.compare_words.ensures in
    let q = c.compare_words.new.room in
    let u = c.compare_words.new.state in
    let written = c.run_woken_clocked.new.state.notes.written in
    let ran = clocked_ran d habit points x r s n time c.run_woken_clocked.new.room q c.run_woken_clocked.new.state u fits e.listed c.requires.replayable.lawful e.moves e.found w.chosen w.step w.rest w.members w.once w.fits
    w.knows w.verdicts w.unwritten w.words w.ranges v.room v.state v.marks v.ranges v.words v.changes in
    let given = ap (λ (y : ReplayState). y.values) v.state ∙ w.values in
    let acted = ap (λ (y : ReplayState). y.acted) v.state ∙ w.acted in
    let noted = v.points ∙ w.points in
    let steps = w.steps ∙ ap (λ (y : ReplayRoom). c.args.steps.now + length y.ran.items) (sym v.room) in
    let k = c.settle_step.new.room in
    let store = c.settle_step.new.store in
    let changed = settled_changed x.step.codes.items s.values u.values n q k given ran.step c.settle_step.ensures.changed e.changed in
    let begun = for_step d habit points x r s n time c.args.listed q u written ran (λ o early marks. HasBegun o (state_of k.sets) early (listed_of k) k.values store marks) u.values c.as_slice.result.now given c.as_slice.ensures c.in_default.ensures.begun in
    let z = c.run_woken in
    let from = c.args.steps.now in
    counts_run d habit points x r s n time c.args.listed q u written ran k store c.requires.fits.tables changed begun from z.new.steps (steps_both from c.run_woken_clocked.new.steps z.new.steps q.ran.items k.list.pairs steps z.ensures.steps)

pub returns-clause-counts : goal.returns-clause-counts
returns-clause-counts g c =
    let d = design_view c.args.design.now in
    let habit = c.args.habit in
    let r = c.args.room.now in
    let s = c.args.state.now in
    let x = c.args.tables.now in
    let points = s.notes.points.now in
    let time = c.args.time in
    let n = c.find_step.new.room in
    let e = c.find_step.ensures in
    let fits = found_parts d points x r s n c.requires.fits e.fits e.writers e.inputs in
    let w = c.run_woken_clocked.ensures in
    let v = c.compare_words.ensures in
    let q = c.compare_words.new.room in
    let u = c.compare_words.new.state in
    let written = c.run_woken_clocked.new.state.notes.written in
    let ran = clocked_ran d habit points x r s n time c.run_woken_clocked.new.room q c.run_woken_clocked.new.state u fits e.listed c.requires.replayable.lawful e.moves e.found w.chosen w.step w.rest w.members w.once w.fits
    w.knows w.verdicts w.unwritten w.words w.ranges v.room v.state v.marks v.ranges v.words v.changes in
    let given = ap (λ (y : ReplayState). y.values) v.state ∙ w.values in
    let acted = ap (λ (y : ReplayState). y.acted) v.state ∙ w.acted in
    let noted = v.points ∙ w.points in
    let steps = w.steps ∙ ap (λ (y : ReplayRoom). c.args.steps.now + length y.ran.items) (sym v.room) in
    let k = c.settle_step.new.room in
    let store = c.settle_step.new.store in
    let changed = settled_changed x.step.codes.items s.values u.values n q k given ran.step c.settle_step.ensures.changed e.changed in
    let begun = for_step d habit points x r s n time c.args.listed q u written ran (λ o early marks. HasBegun o (state_of k.sets) early (listed_of k) k.values store marks) u.values c.as_slice.result.now given c.as_slice.ensures c.in_default.ensures.begun in
    let z = c.run_woken in
    let from = c.args.steps.now in
    counts_run d habit points x r s n time c.args.listed q u written ran k store c.requires.fits.tables changed begun from z.new.steps (steps_both from c.run_woken_clocked.new.steps z.new.steps q.ran.items k.list.pairs steps z.ensures.steps)

pub returns-clause-closes : goal.returns-clause-closes
returns-clause-closes g c =
    let d = design_view c.args.design.now in
    let habit = c.args.habit in
    let r = c.args.room.now in
    let s = c.args.state.now in
    let x = c.args.tables.now in
    let points = s.notes.points.now in
    let time = c.args.time in
    let n = c.find_step.new.room in
    let e = c.find_step.ensures in
    let fits = found_parts d points x r s n c.requires.fits e.fits e.writers e.inputs in
    let w = c.run_woken_clocked.ensures in
    let v = c.compare_words.ensures in
    let q = c.compare_words.new.room in
    let u = c.compare_words.new.state in
    let written = c.run_woken_clocked.new.state.notes.written in
    let ran = clocked_ran d habit points x r s n time c.run_woken_clocked.new.room q c.run_woken_clocked.new.state u fits e.listed c.requires.replayable.lawful e.moves e.found w.chosen w.step w.rest w.members w.once w.fits
    w.knows w.verdicts w.unwritten w.words w.ranges v.room v.state v.marks v.ranges v.words v.changes in
    let given = ap (λ (y : ReplayState). y.values) v.state ∙ w.values in
    let acted = ap (λ (y : ReplayState). y.acted) v.state ∙ w.acted in
    let noted = v.points ∙ w.points in
    let steps = w.steps ∙ ap (λ (y : ReplayRoom). c.args.steps.now + length y.ran.items) (sym v.room) in
    let k = c.settle_step.new.room in
    let store = c.settle_step.new.store in
    let changed = settled_changed x.step.codes.items s.values u.values n q k given ran.step c.settle_step.ensures.changed e.changed in
    let begun = for_step d habit points x r s n time c.args.listed q u written ran (λ o early marks. HasBegun o (state_of k.sets) early (listed_of k) k.values store marks) u.values c.as_slice.result.now given c.as_slice.ensures c.in_default.ensures.begun in
    let z = c.run_woken in
    let a = z.new.room in
    let o = z.new.state in
    let b = c.check_step in
    let codes = x.step.codes.items in
    let all = z.ensures.fits in
    let marked = all.state.noted ∙ noted in
    let of = subst (λ ps. AreMarksOf ps o.notes.marks) marked (subst (λ ps. AreMarksOf ps o.notes.marks) (sym all.state.noted) all.state.marks) in
    let moves = c.moves.result.now in
    let last = c.mark_step.ensures in
    let y = record o { seen = c.mark_step.new.seen; machines = c.mark_machines.new.machines; notes = c.mark_machines.new.notes; values = c.close.new.self } in
    let seen = z.ensures.seen ∙ ap (λ (f : ReplayState). f.seen) v.state ∙ w.seen in
    let last_given = z.ensures.values ∙ given in
    let told = ap (λ ms. ms.told) (z.ensures.machines ∙ ap (λ (f : ReplayState). f.machines) v.state ∙ w.machines) in
    let moves_same = c.moves.ensures.value ∙ sym c.moves-2.ensures.value in
    let to : (st : Closing) → IsOver st points moves time c.args.listed o.store a.step.values s.seen o.notes.marks → IsOver st o.notes.points.now moves time c.args.listed o.store b.new.room.step.values o.seen o.notes.marks = λ st i.
    subst (λ ps. IsOver st ps moves time c.args.listed o.store b.new.room.step.values o.seen o.notes.marks) (sym marked)
    (subst (λ (f : ReplayRoom). IsOver st points moves time c.args.listed o.store f.step.values o.seen o.notes.marks) (sym b.ensures.room)
    (subst (λ ms. IsOver st points moves time c.args.listed o.store a.step.values ms o.notes.marks) (sym seen) i)) in
    subst (λ f. Closes (made_with d habit points x) time c.args.listed (parts_with r s) (parts_with f y)) (sym b.ensures.room)
    (closes_run d habit points x r s n time c.args.listed q u written ran k store c.requires.fits.tables changed begun a o c.words_law.ensures.start c.settle_step.ensures.sets (ap (λ a. a.items) acted) z.ensures.sets noted z.ensures.step z.ensures.ran y c.mark_step.new.notes.marks moves
    (subst (λ (vs : Values). All (AgreesAt codes vs.last a.step.values.made) (last_of_each (flat_map (row_at x.checks) a.ran.items))) last_given c.in_default-check_step.ensures.none)
    (c.moves.ensures.value ∙ ap (λ (f : ReplayRoom). (state_of f.step.sets).moves) b.ensures.room ∙ ap (λ ws. (state_of ws).moves) z.ensures.sets)
    all.room.sets all.room.writers of refl refl
    (ap (λ (v : Values). v.closed) c.close.ensures ∙ ap (λ (v : Values). v.last) last_given)
    c.words_law.ensures.kept z.ensures.words (ap (λ (t : WrittenState). t.ranges) (c.mark_machines.ensures.written ∙ last.written) ∙ z.ensures.ranges ∙ v.ranges ∙ w.ranges)
    (λ st i. subst (λ ps. MarksInTurn st ps moves o.notes.marks.verdicts c.mark_step.new.notes.marks.verdicts) marked (last.toggles st (to st i)))
    (λ st i. subst (λ ps. IsSeenAfter st ps y.seen c.mark_step.new.notes.marks) marked (last.seen st (to st i)))
    (subst (λ ps. AreMarksOf ps y.notes.marks) (last.points ∙ marked) c.mark_machines.ensures.marks)
    (λ st i. subst (λ b. MarksMachines st points (not c.args.listed || b) c.mark_step.new.notes.marks.verdicts y.notes.marks.verdicts) told
    (subst (λ ps. MarksMachines st ps (not c.args.listed || o.machines.told) c.mark_step.new.notes.marks.verdicts y.notes.marks.verdicts) (last.points ∙ marked)
    (c.mark_machines.ensures.machines st (subst (λ ms. IsMachineStep st ms time c.args.listed o.store b.new.room.step.values) moves_same (subst (λ (f : ReplayRoom). IsMachineStep st moves time c.args.listed o.store f.step.values) (sym b.ensures.room) i)))))
    c.mark_machines.ensures.told)

-- ---- the parts after it

pub returns-clause-fits : goal.returns-clause-fits
returns-clause-fits g c =
    let d = design_view c.args.design.now in
    let points = c.args.state.now.notes.points.now in
    let x = c.args.tables.now in
    let w = c.run_woken_clocked in
    let z = c.run_woken in
    let b = c.check_step in
    let e = c.mark_step.ensures in
    let o = z.new.state in
    let ran = subst (λ ps. FitsParts d ps x z.new.room o) (c.compare_words.ensures.points ∙ w.ensures.points) z.ensures.fits in
    let fits = checked_fits d points x z.new.room b.new.room o b.ensures.room b.ensures.size ran in
    let y = record o { seen = c.mark_step.new.seen; machines = c.mark_machines.new.machines; notes = c.mark_machines.new.notes; values = c.close.new.self } in
    let m = c.mark_machines.ensures in
    run_fits d points x b.new.room b.new.room o y fits.state.kept fits fits.room fits.state.known refl e.count m.index (m.points ∙ e.points) (subst (λ ps. AreMarksOf ps c.mark_machines.new.notes.marks) (e.points ∙ fits.state.noted) m.marks)
    (ap (λ (v : Values). v.last) c.close.ensures) (subst (AreWideValues d x.step.codes.items) (sym (ap (λ (v : Values). v.closed) c.close.ensures)) fits.state.wide)
    (words_same d x o.notes.written c.mark_machines.new.notes.written b.new.room.words b.new.room.words fits.words (ap (λ (t : WrittenState). t.first) (m.written ∙ e.written)) (ap (λ (t : WrittenState). t.ranges) (m.written ∙ e.written)) refl)

pub returns-in-Some-check_step-clause-fits : goal.returns-in-Some-check_step-clause-fits
returns-in-Some-check_step-clause-fits g c =
    let d = design_view c.args.design.now in
    let points = c.args.state.now.notes.points.now in
    let x = c.args.tables.now in
    let z = c.run_woken in
    let b = c.check_step in
    checked_fits d points x z.new.room b.new.room z.new.state b.ensures.room b.ensures.size (subst (λ ps. FitsParts d ps x z.new.room z.new.state) (c.compare_words.ensures.points ∙ c.run_woken_clocked.ensures.points) z.ensures.fits)
