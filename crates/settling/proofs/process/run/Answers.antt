use Rattle.std.proofs.Common.{◌≡◌, ◌∙◌, ◌<◌, ◌≤◌, ◌+◌, ◌||◌, arith, not, ap, if◌then◌else◌, length, subst, sym}
use Rattle.std.specs.Prelude.{slice_set}
use Rattle.std.specs.List.{All}
use Rattle.design_model.specs.Design.{Design, IsClocked, process_at}
use Rattle.design_model.specs.Lawful.{IsLawfulDesign}
use Rattle.design_model.specs.View.{design_view, process_view}
use Rattle.body_replay.specs.Contract.{Outcome}
use Rattle.settled_runs.specs.block_runs.Notes.{AddsNotes, way_of}
use Rattle.early_sets.specs.WakeState.{state_of}
use Rattle.index_sets.specs.Rows.{row_at}
use Rattle.settled_runs.specs.process_targets.Rows.{AreTargets, IsInside}
use Rattle.settled_runs.specs.process_targets.Targets.{IsOnce, names, row_has}
use Rattle.step_parts.specs.replay_model.Step.{is_comb, run_settling}
use Rattle.settled_targets.specs.step_values.Vectors.{FitsSignals}
use Rattle.settled_targets.specs.Returned.{Returns}
use Rattle.settled_targets.specs.Saved.{AreSaved}
use Rattle.wake_bits.specs.declared.wakes.Wake.{Wake}
use Rattle.step_words.specs.Words.{IsOfMemories}
use Rattle.settling.specs.Runs.{AtPoint, acts_by}
use Rattle.settling.specs.Wakes.{IsWakeRow}
use Rattle.settling.proofs.Stepping.{found_process, outcome_is, point_after, same_count}
use Rattle.settling.proofs.process.run.Goals as goal

pub certainty-how-requires-clause-watched : goal.certainty-how-requires-clause-watched
certainty-how-requires-clause-watched g c =
    subst (λ row. All (λ (w : Wake). w.thing < length c.args.store.now.design.now.signals + length c.args.store.now.design.now.memories) row) (sym c.row-wakes.ensures)
    (subst (λ (e : Design). All (λ (w : Wake). w.thing < length e.signals + length e.memories) (row_at c.args.rows.now.wakes.now c.args.process)) (sym c.requires.same) (c.requires.rows.things c.args.process))

pub certainty-how-requires-clause-things : goal.certainty-how-requires-clause-things
certainty-how-requires-clause-things g c = subst (λ (e : Design). length e.signals + length e.memories ≤ (state_of c.args.found.now.sets.now).tables.things) (sym c.requires.same) c.requires.things

pub certainty-how-requires-clause-memories : goal.certainty-how-requires-clause-memories
certainty-how-requires-clause-memories g c = subst (λ (e : Design). IsOfMemories e c.args.found.now.words.now) (sym c.requires.same) c.requires.memories

pub put_back-requires-clause-saved : goal.put_back-requires-clause-saved
put_back-requires-clause-saved g c =
    let h = c.requires.known.2 in
    let k = c.requires.known.1 in
    let qs = c.run_saved.new.scratch.saved in
    let x = c.run_saved.new.store in (
      k,
      subst (λ row. AreSaved (design_view x.design.now) k row qs) (sym c.row.ensures)
          (subst (λ e. AreSaved e k (row_at c.args.rows.now.targets.now c.args.process) qs) (sym h.design ∙ c.requires.same ∙ sym c.run_saved.ensures.design) (c.run_saved.ensures.saved c.requires.known.0 k h)),
    )

pub put_back-requires-clause-known : goal.put_back-requires-clause-known
put_back-requires-clause-known g c = (c.requires.known.0, _, c.run_saved.ensures.knows c.requires.known.0 c.requires.known.1 c.requires.known.2)

pub put_back-requires-clause-fits : goal.put_back-requires-clause-fits
put_back-requires-clause-fits g c = subst (λ e. FitsSignals e c.args.values.now) (c.requires.same ∙ sym c.run_saved.ensures.design) c.requires.fits

pub put_back-requires-clause-once : goal.put_back-requires-clause-once
put_back-requires-clause-once g c = subst IsOnce (sym c.row.ensures) (c.requires.rows.targets.each c.args.process).bits.once

pub put_back-requires-clause-inside : goal.put_back-requires-clause-inside
put_back-requires-clause-inside g c =
    subst (λ row. All (IsInside (design_view c.run_saved.new.store.design.now)) row) (sym c.row.ensures)
    (subst (λ e. All (IsInside e) (row_at c.args.rows.now.targets.now c.args.process)) (sym c.run_saved.ensures.design) (c.requires.rows.targets.each c.args.process).bits.inside)

pub returns-clause-same : goal.returns-clause-same
returns-clause-same g c = ap (λ x. design_view x.now) c.put_back.ensures.design ∙ c.run_saved.ensures.design

pub returns-clause-known : goal.returns-clause-known
returns-clause-known g c =
    let d = c.requires.known.0 in
    let k = c.requires.known.1 in
    let h = c.requires.known.2 in
    (d, _, c.put_back.ensures.knows d k _ (subst (λ row. AreSaved d k row c.run_saved.new.scratch.saved) (sym c.row.ensures) (c.run_saved.ensures.saved d k h)) (c.run_saved.ensures.knows d k h))

pub returns-clause-fits : goal.returns-clause-fits
returns-clause-fits g c =
    let d = design_view c.args.store.now.design.now in
    subst (λ e. FitsSignals e c.put_back.new.values) (c.requires.same ∙ sym (ap (λ x. design_view x.now) c.put_back.ensures.design ∙ c.run_saved.ensures.design)) (c.put_back.ensures.fits d c.requires.fits)

pub returns-clause-flags : goal.returns-clause-flags
returns-clause-flags g c = ap length c.result_holds-holds.ensures.flags ∙ same_count (is_comb (process_view c.index-processes-process.result)) c.result_holds-holds.result c.args.acted.now c.args.process

pub returns-clause-step : goal.returns-clause-step
returns-clause-step g c = λ st w point step touched.
    let d = st.design in
    let p = c.args.process in
    let m = c.args.rows.now.design.now in
    let q = c.index-processes-process.result in
    let h = point.state.values.knows in
    let row = row_at c.args.rows.now.targets.now p in
    let wakes = c.args.rows.now.wakes.now in
    let flags = c.args.acted.now in
    let how = way_of c.certainty-how.result in
    let changed = c.args.found.now.changed.now.items in
    let holds = c.result_holds-holds.result in
    let qs = c.run_saved.new.scratch.saved in
    let same : design_view m ≡ d = sym c.requires.same ∙ h.design in
    let lawful : IsLawfulDesign d = subst IsLawfulDesign same c.requires.lawful in
    let settles = subst (λ e. IsClocked (process_at e p) → ⊥) same c.requires.settles in
    let targets = subst (λ e. AreTargets e p row) same (c.requires.rows.targets.each p) in
    let signals = c.settled_law.ensures d lawful p settles in
    let many : length m.signals ≡ length d.signals = ap (λ (e : Design). length e.signals) same in
    let how_is = c.certainty-how.ensures st w p point.state point.words signals (subst (IsWakeRow st p) (sym c.row-wakes.ensures) step.wakes) step.time in
    let is : process_at d p ≡ process_view q = found_process m d p q c.as_slice-processes.result.now same c.requires.place c.index-processes-process.is c.as_slice-processes.ensures in
    let made : holds ≡ (not (is_comb (process_at d p)) || acts_by flags p how (length d.signals) (row_at wakes p) changed) =
    c.result_holds-holds.ensures.result
    ∙ ap (λ z. not (is_comb z) || acts_by flags p how c.len.result c.row-wakes.result.now changed) (sym is)
    ∙ ap (λ n. not (is_comb (process_at d p)) || acts_by flags p how n c.row-wakes.result.now changed) (c.len.ensures ∙ many)
    ∙ ap (λ ws. not (is_comb (process_at d p)) || acts_by flags p how (length d.signals) ws changed) c.row-wakes.ensures in
    let back = subst (λ bs. Returns c.args.rows.now.codes.now (names bs) (row_has bs) c.is_kept.result holds (λ e j. AreSaved e j bs qs) c.run_saved.new.store c.put_back.new.store c.args.values.now c.put_back.new.values) c.row.ensures c.put_back.ensures in
    let place = c.requires.place in
    let count = c.requires.flags in
    subst (λ fs. AtPoint st (run_settling st c.args.is_ordered p w) c.put_back.new.store c.put_back.new.values c.args.found.now.words.now (state_of c.args.found.now.sets.now) fs)
    (ap (λ z. if is_comb z then slice_set flags p holds else flags) is ∙ sym c.result_holds-holds.ensures.flags)
    (point_after st w p c.args.is_ordered how row wakes c.args.rows.now.codes.now changed c.args.found.now.time (state_of c.args.found.now.sets.now) flags c.args.store.now c.run_saved.new.store c.put_back.new.store c.args.values.now c.put_back.new.values c.args.found.now.words.now qs c.is_kept.result holds lawful (c.runs_lawful.ensures d lawful) settles targets point step touched how_is made c.is_kept.ensures (c.run_saved.ensures.saved d w.kept h) (c.run_saved.ensures.knows d w.kept h) back (omega (arith, place, count)) signals)

pub returns-clause-notes : goal.returns-clause-notes
returns-clause-notes g c = λ st w point step.
    let h = point.state.values.knows in
    let m = c.args.rows.now.design.now in
    let same : design_view m ≡ st.design = sym c.requires.same ∙ h.design in
    let lawful : IsLawfulDesign st.design = subst IsLawfulDesign same c.requires.lawful in
    let settles = subst (λ e. IsClocked (process_at e c.args.process) → ⊥) same c.requires.settles in
    let signals = c.settled_law.ensures st.design lawful c.args.process settles in
    let how_is = c.certainty-how.ensures st w c.args.process point.state point.words signals (subst (IsWakeRow st c.args.process) (sym c.row-wakes.ensures) step.wakes) step.time in
    subst (λ (o : Outcome). AddsNotes g.N.BlockNotes.noted c.args.notes.now o.notes c.run_saved.new.notes) (sym (outcome_is st w c.args.process (way_of c.certainty-how.result) step.runs how_is)) (c.run_saved.ensures.notes st.design w.kept h)

pub returns-clause-took : goal.returns-clause-took
returns-clause-took g c = (_, c.run_saved.ensures.notes c.requires.known.0 c.requires.known.1 c.requires.known.2)
