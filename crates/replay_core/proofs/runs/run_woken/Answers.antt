use Rattle.std.proofs.Common.{◌≡◌, ◌∙◌, ◌+◌, ◌≤◌, ℕ, ◌++◌, drop, length, map, take, ap, refl, subst, sym, arith}
use Rattle.std.specs.List.{All}
use Rattle.std.specs.Vec.{with_items}
use Rattle.std.proofs.Math.Seq.{take-append_seam}
use Rattle.cover_marks.specs.Marks.{AreMarksOf}
use Rattle.design_model.specs.Design.{IsClocked, process_at}
use Rattle.design_model.specs.View.{design_view}
use Rattle.design_model.specs.declared.design.Design.{Design as CodeDesign}
use Rattle.early_sets.specs.WakeState.{state_of}
use Rattle.first_step.specs.step_values.Vectors.{FitsSignals}
use Rattle.first_step.specs.store_knowledge.Knows.{Knows}
use Rattle.index_sets.specs.Rows.{row_at}
use Rattle.replay_model.specs.Step.{all_run, clocked_run, settle_start}
use Rattle.step_start.specs.step_parts.AtStep.{AtStep}
use Rattle.step_runs.specs.Runs.{IsRunOf}
use Rattle.step_words.specs.Words.{IsOfMemories}
use Rattle.replay_core.specs.Fits.{FitsRoom}
use Rattle.replay_core.proofs.Parts.{run_fits, words_same}
use Rattle.replay_core.proofs.runs.run_woken.Goals as goal

pub run_all-requires-clause-settles : goal.run_all-requires-clause-settles
run_all-requires-clause-settles g c =
    subst (λ D. All (λ (q : ℕ × ℕ). IsClocked (process_at (design_view D) q.0) → ⊥) c.args.room.now.step.list.pairs) (sym c.process_rows-rows.ensures.design) c.requires.settles

pub run_all-requires-clause-things : goal.run_all-requires-clause-things
run_all-requires-clause-things g c =
    let are = c.requires.fits.room.sets.tables.things_are in
    let size = ap (λ (D : CodeDesign). length D.signals + length D.memories) c.process_rows-rows.ensures.design in
    omega (arith, are, size)

pub run_all-requires-clause-memories : goal.run_all-requires-clause-memories
run_all-requires-clause-memories g c = subst (λ D. IsOfMemories (design_view D) c.args.room.now.words) (sym c.process_rows-rows.ensures.design) c.requires.fits.words.ranges.memories

pub returns-clause-fits : goal.returns-clause-fits
returns-clause-fits g c =
    let D = c.args.design.now in
    let d = design_view D in
    let r = c.args.room.now in
    let s = c.args.state.now in
    let x = c.args.tables.now in
    let e = c.run_all.ensures in
    let new = c.run_all.new in
    let old = c.requires.fits in
    let q = record r { step = record r.step { list = new.list; values = new.values }; ran = new.ran; scratch = new.scratch } in
    let u = record s { store = new.store; acted = with_items s.acted new.acted; notes = new.notes } in
    let value = ap length c.as_mut_slice.ensures.value in
    let size : s.acted.len ≡ length new.acted = omega (arith, e.flags, value, s.acted.ok.0) in
    let rest = drop (length new.acted) s.acted.items in
    let back : take s.acted.len (new.acted ++ rest) ≡ new.acted = ap (λ n. take n (new.acted ++ rest)) size ∙ take-append_seam new.acted rest in
    let h = e.known.2 in
    let same = e.same ∙ ap design_view c.process_rows-rows.ensures.design in
    let knows = subst (λ b. Knows b e.known.1 new.store) (sym h.design ∙ same) h in
    let room : FitsRoom d x q = record {
      changed = old.room.changed;
      changes = old.room.changes;
      sets = old.room.sets;
      writers = old.room.writers;
      list = e.count ∙ old.room.list;
      clocked = old.room.clocked;
      overwritten = old.room.overwritten;
      running = old.room.running;
      places = old.room.places;
      ranks = old.room.ranks;
      none_by_round = old.room.none_by_round;
      later = old.room.later;
      none_later = old.room.none_later;
      values = subst (λ b. FitsSignals b new.values) same e.fits;
      saved = λ p l. subst (λ n. length (row_at x.step.targets p) ≤ n) (sym e.room) (old.room.saved p l);
      empty = ap (λ k. k.items) e.pieces ∙ old.room.empty;
      pieces = subst (λ k. 128 ≤ k.room) (sym e.pieces) old.room.pieces;
      ran = subst (λ n. length d.processes ≤ n) (sym e.places) old.room.ran;
      checks = old.room.checks;
    } in
    run_fits d s.notes.points.now x r q s u e.known.1 old room knows (ap length back ∙ e.flags ∙ value) refl refl e.points (subst (λ ps. AreMarksOf ps new.notes.marks) e.points e.marks) refl old.state.wide_closed
    (words_same d x s.notes.written new.notes.written r.words r.words old.words e.first e.ranges refl)

pub returns-clause-step : goal.returns-clause-step
returns-clause-step g c = λ st run changes at.
    let room = c.args.room.now in
    let state = c.args.state.now in
    let tables = c.args.tables.now in
    let points = state.notes.points.now in
    let listed = map (λ q. q.0) room.step.list.pairs in
    let new = c.run_all.new.acted in
    let flags = c.run_all.ensures.flags in
    let value = ap length c.as_mut_slice.ensures.value in
    let ok = state.acted.ok.0 in
    let size : state.acted.len ≡ length new = omega (arith, flags, value, ok) in
    let rest = drop (length new) state.acted.items in
    let back : take state.acted.len (new ++ rest) ≡ new = ap (λ n. take n (new ++ rest)) size ∙ take-append_seam new rest in
    let order = tables.processes.order in
    let count : length order.items ≡ c.len.result = omega (arith, c.len.ensures, order.ok.0) in
    let run1 = subst (λ n. IsRunOf st points tables.step.order n listed tables.wakes tables.step.codes.items room.step.changed.items c.args.time) count run in
    let run2 = subst (λ ws. IsRunOf st points tables.step.order c.len.result listed ws tables.step.codes.items room.step.changed.items c.args.time) (sym c.process_rows-rows.ensures.wakes) run1 in
    let run3 = subst (λ cs. IsRunOf st points tables.step.order c.len.result listed c.process_rows-rows.result.wakes.now cs room.step.changed.items c.args.time) (sym c.process_rows-rows.ensures.codes) run2 in
    let at1 = subst (λ fs. AtStep st points (settle_start st (clocked_run st)) state.store room.step.values (state_of room.step.sets) fs state.notes.marks) (sym c.as_mut_slice.ensures.value) at in
    subst (λ fs. AtStep st points (all_run st) c.run_all.new.store c.run_all.new.values (state_of room.step.sets) fs c.run_all.new.notes.marks) (sym back) (c.run_all.ensures.step st run3 changes at1)
