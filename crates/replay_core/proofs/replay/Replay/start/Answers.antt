use Rattle.std.proofs.Common.{◌≡◌, ◌∙◌, ◌<◌, ℕ, [], false, length, map, IfErr, IfNone, IfSome, Option, Some, ap, refl, subst, sym, arith}
use Rattle.std.proofs.lemmas.List.{length-map}
use Rattle.design_model.specs.View.{design_view, process_view}
use Rattle.early_sets.specs.declared.habit.Habit.{Habit}
use Rattle.wake_laws.specs.Laws.{habit_of}
use Rattle.replay_core.specs.Closing.{RefutesFirst, Starts}
use Rattle.replay_core.specs.Faults.{IsContradiction, fault_at, phase_after}
use Rattle.replay_core.specs.Fits.{FitsParts, FitsReplay, HaveValues, IsForgotten}
use Rattle.replay_core.specs.Followed.{HasFollowed}
use Rattle.replay_core.specs.Made.{HasFollows, IsDumpFor, made_with, parts_with, subject_of}
use Rattle.replay_core.specs.Parts.{given_of, made_of, parts_of}
use Rattle.code_values.specs.Values.{IsFirstMissing, lacks_value}
use Rattle.dump_check.specs.declared.order.Difference.{Difference}
use Rattle.replay_core.specs.declared.fault.Phase.TheVariants.{Refused}
use Rattle.replay_core.specs.declared.fault.ReplayFault.TheVariants.{Contradiction, NoBaseline}
use Rattle.replay_core.specs.declared.replay.Replay.{Replay}
use Rattle.replay_core.specs.declared.room.ReplayRoom.{ReplayRoom}
use Rattle.replay_core.specs.declared.tables.ReplayTables.{ReplayTables}
use Rattle.replay_core.proofs.Ends.{all_valued, if_err, is_off, named_fault, none_at, on_ok, step_ready}
use Rattle.replay_core.proofs.Missing.{no_contradiction, not_done, not_given, of_fault, refused_ready, same_signal}
use Rattle.replay_core.proofs.replay.Replay.start.Goals as goal

-- a contradiction is no signal without a value
no_missing : {found : Option Difference} {time : ℕ} (s : ℕ) → (one : Difference) × (found ≡ Some one) × (NoBaseline s ≡ fault_at one time) → ⊥
no_missing s is = apart s is.0 is.2
  where
    apart : {n : ℕ} (s : ℕ) (one : Difference) → NoBaseline s ≡ fault_at one n → ⊥
    apart s one e = cc

pub run_first_step-found-requires : goal.run_first_step-found-requires
run_first_step-found-requires g c =
    let x = c.args.self.now in
    let d = design_view x.design.now in
    let points = x.state.notes.points.now in
    let ready = c.requires.ready in
    let off = is_off x.phase c.requires.once c.in_default.not-Refused in
    let none = subst (λ cs. (s : ℕ) → s < length cs → lacks_value x.state.values.last cs s ≡ false) c.as_slice-codes.ensures.value c.in_default-first_missing.ensures.none in
    let have = all_valued x.tables.value.step.codes.items x.state.values.last (subst (λ (t : ReplayTables). (s : ℕ) → s < length t.step.codes.items → lacks_value x.state.values.last t.step.codes.items s ≡ false) c.deref.ensures none) in
    record {
      replayable = ready.replayable;
      fits =
          subst (λ t. FitsParts d points t c.deref_mut.result.now x.state) (sym c.deref-2.ensures)
          (subst (λ r. FitsParts d points x.tables.value r x.state) (sym c.deref_mut.ensures.value) ready.parts);
      none = subst (λ (r : ReplayRoom). r.step.list.pairs ≡ []) (sym c.deref_mut.ensures.value) ready.none;
      none_clocked = subst (λ (r : ReplayRoom). r.step.clocked.pairs ≡ []) (sym c.deref_mut.ensures.value) ready.none_clocked;
      forgotten = subst (λ r. IsForgotten d r x.state) (sym c.deref_mut.ensures.value) (ready.forgotten off);
      given = subst (λ (t : ReplayTables). HaveValues t.step.codes.items x.state.values.last) (sym c.deref-2.ensures) have;
    }

pub returns : goal.returns
returns g c =
    let x = c.args.self.now in
    let D = x.design.now in
    let d = design_view D in
    let points = x.state.notes.points.now in
    let tables = x.tables.value in
    let codes = tables.step.codes.items in
    let last = x.state.values.last in
    let ready = c.requires.ready in
    let run = c.run_first_step-found in
    let room = run.new.room in
    let state = run.new.state in
    let found = run.result in
    let time = c.args.time in
    let e = c.end.ensures.phase in
    let m = made_with d x.habit points tables in
    let same = c.deref-2.ensures in
    let noted = run.ensures.points in
    let none = subst (λ cs. (s : ℕ) → s < length cs → lacks_value last cs s ≡ false) c.as_slice-codes.ensures.value c.in_default-first_missing.ensures.none in
    let have = all_valued codes last (subst (λ (t : ReplayTables). (s : ℕ) → s < length t.step.codes.items → lacks_value last t.step.codes.items s ≡ false) c.deref.ensures none) in
    let fits : FitsParts d points tables room state = subst (λ t. FitsParts d points t room state) same run.ensures.fits in
    let valued : HaveValues codes state.values.last = subst (HaveValues codes) (sym run.ensures.values) have in
    let closed = none_at found (subst (HaveValues codes) (sym run.ensures.closed) have) in
    let ended : FitsReplay d state.notes.points.now tables room state (phase_after found time) =
    subst (λ ps. FitsReplay d ps tables room state (phase_after found time)) (sym noted) (step_ready d points tables room state found time ready.replayable fits run.ensures.none run.ensures.none_clocked valued closed run.ensures.named) in
    let old = c.deref_mut.ensures.value in
    let starts = subst (λ r. IfNone found ((h : Habit) (n : ℕ) → Starts (made_with d h points tables) n (parts_with r x.state) (parts_with room state))) old
    (subst (λ t. IfNone found ((h : Habit) (n : ℕ) → Starts (made_with d h points t) n (parts_with c.deref_mut.result.now x.state) (parts_with room state))) same run.ensures.starts) in
    let refutes = subst (λ r. IfSome found (λ one. (h : Habit) (n : ℕ) → RefutesFirst (made_with d h points tables) n (parts_with r x.state) one)) old
    (subst (λ t. IfSome found (λ one. (h : Habit) (n : ℕ) → RefutesFirst (made_with d h points t) n (parts_with c.deref_mut.result.now x.state) one)) same run.ensures.refutes) in
    let after : made_with d x.habit state.notes.points.now tables ≡ m = ap (λ ps. made_with d x.habit ps tables) noted in
    let size : length (map process_view D.processes) ≡ length D.processes = length-map D.processes process_view in
    let steps = run.ensures.steps in
    record {
      ready = subst (λ (y : Replay). FitsReplay (design_view y.design.now) y.state.notes.points.now y.tables.value y.room.value y.state y.phase) (sym e) ended;
      made = ap made_of e ∙ after;
      values = ap given_of e ∙ run.ensures.values;
      started = on_ok c.end.result c.end.ensures.ok (λ none. ap (λ (y : Replay). y.phase) e ∙ ap (λ o. phase_after o time) none);
      followed = on_ok c.end.result c.end.ensures.ok (λ none dump paused first shown given.
          let b = (subst (λ o. IfNone o ((h : Habit) (n : ℕ) → Starts (made_with d h points tables) n (parts_of x) (parts_with room state))) none starts) x.habit time dump paused.replay paused.dumped paused.pauses first shown given in
          subst (λ (y : Replay). HasFollowed y dump time) (sym e) (record {
            dumped = subst (λ n. IsDumpFor n dump) (sym after) paused.dumped;
            started = ap (λ o. phase_after o time) none;
            replay = b.0;
            follows = subst (λ n. HasFollows (subject_of n dump) time b.0 (parts_with room state)) (sym after) b.1;
          }));
      refused = if_err c.end.result c.end.ensures.err (λ fault is. ap (λ (y : Replay). y.phase) e ∙ ap (λ o. phase_after o time) is.1 ∙ ap Refused (sym is.2));
      missing = λ s off is. absurd (no_missing s (subst (λ r. IfErr r (λ fault. (one : Difference) × (found ≡ Some one) × (fault ≡ fault_at one time))) is c.end.ensures.err));
      contradiction = if_err c.end.result c.end.ensures.err (λ fault is dump paused first shown given.
          let refuted = (subst (λ o. IfSome o (λ one. (h : Habit) (n : ℕ) → RefutesFirst (made_with d h points tables) n (parts_of x) one)) is.1 refutes) x.habit time dump paused.replay paused.dumped paused.pauses first shown given in
          subst (λ f. IsContradiction d (habit_of x.habit) dump time f) (sym is.2) (refl, refuted));
      valued = λ s t dumped computed off is. have;
      again = λ fault refused. absurd (c.in_default.not-Refused fault refused);
      named = if_err c.end.result c.end.ensures.err (λ fault is. named_fault found is.0 fault time (length d.signals) run.ensures.named is.1 is.2);
      steps = omega (arith, steps, size);
    }

pub returns-in-Some : goal.returns-in-Some
returns-in-Some g c =
    let x = c.args.self.now in
    let d = design_view x.design.now in
    let codes = x.tables.value.step.codes.items in
    let last = x.state.values.last in
    let ready = c.requires.ready in
    let s = c.in-Some.signal in
    let e = c.refuse.ensures.phase in
    let r = c.refuse.ensures.result in
    let at : IsFirstMissing last c.as_slice-codes.result.now s = subst (λ o. IfSome o (λ n. IsFirstMissing last c.as_slice-codes.result.now n)) c.in-Some.is c.first_missing.ensures.some in
    let found : IsFirstMissing last codes s = subst (λ (t : ReplayTables). IsFirstMissing last t.step.codes.items s) c.deref.ensures (subst (λ cs. IsFirstMissing last cs s) c.as_slice-codes.ensures.value at) in
    let named = subst (λ n. s < n) ready.parts.tables.codes found.listed in
    record {
      ready = subst (λ (y : Replay). FitsReplay (design_view y.design.now) y.state.notes.points.now y.tables.value y.room.value y.state y.phase) (sym e) (refused_ready d x.state.notes.points.now x.tables.value x.room.value x.state x.phase (NoBaseline s) named ready);
      made = ap made_of e;
      values = ap given_of e;
      started = not_done _ c.refuse.result (NoBaseline s) r;
      followed = not_done _ c.refuse.result (NoBaseline s) r;
      refused = of_fault _ c.refuse.result (NoBaseline s) r (ap (λ (y : Replay). y.phase) e);
      missing = λ n off is. subst (λ k. IsFirstMissing last codes k) (same_signal c.refuse.result s n r is) found;
      contradiction = of_fault _ c.refuse.result (NoBaseline s) r (λ dump paused first shown given. not_given d codes last (dump.values c.args.time) s found.missing given);
      valued = λ n t dumped computed off is. absurd (no_contradiction c.refuse.result s (Contradiction n t dumped computed) refl r is);
      again = λ fault refused. absurd (c.in_default.not-Refused fault refused);
      named = of_fault _ c.refuse.result (NoBaseline s) r named;
      steps = omega arith;
    }
