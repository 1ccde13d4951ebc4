use Rattle.std.proofs.Common.{◌≡◌, ◌∙◌, inl, inr, ◌<◌, ◌++◌, ◌∷◌, [], ℕ, List, Some, None, ap, arith, length, map, refl, subst, sym}
use Rattle.std.specs.Prelude.{is_some}
use Rattle.std.specs.List.{All}
use Rattle.std.proofs.lemmas.Bool.{false≢true}
use Rattle.std.proofs.lemmas.List.{append-nil, append_assoc, length-append, length-map}
use Rattle.std.proofs.lemmas.List.Elements.{All-push}
use Rattle.design_model.specs.Design.{In}
use Rattle.design_model.specs.View.{design_view, process_view}
use Rattle.clocked_marks.specs.AtClocked.{AtClocked, CanRunAll}
use Rattle.clocked_marks.specs.chosen_runs.chosen_early.early_sets.WakeState.{WakeState, state_of, trigger_of}
use Rattle.step_clocked.proofs.Chosen.{AreChosenBut, chosen_end, chosen_more, chosen_start}
use Rattle.step_clocked.proofs.Folds.{HasCleaned, cleaned_end, cleaned_run}
use Rattle.step_clocked.proofs.Members.{in_below}
use Rattle.step_clocked.proofs.Sets.{early_list, same_both, step_same, trigger_same}
use Rattle.step_clocked.proofs.clean.run_clean_ones.Goals as goal

pub loop-process-init : goal.loop-process-init
loop-process-init g c =
    let w = state_of c.args.sets.now in
    let all = map (λ (q : ℕ × ℕ). q.0) c.args.list.now.pairs in
    let ran : c.args.ran.now.items ≡ [] = c.requires.none_ran in
    record {
      count = refl;
      clean = c.requires.clean;
      below = λ p i. in_below (length c.args.given.now.design.now.processes) all c.requires.below p i;
      ran = ap (λ xs. xs ++ all) ran;
      within = subst (All (λ (p : ℕ). p < length c.args.given.now.design.now.processes)) (sym ran) (λ k d l. absurd (omega (arith, l)));
      places = refl;
      few = let b = ap length ran in let room = c.requires.ran in omega (arith, b, room);
      rest = refl;
      shared = tt;
      same = c.requires.same;
      ready = λ d later can. can;
      pieces = refl;
      points = refl;
      first = refl;
      ranges = refl;
      marks = c.requires.marks;
      steps = let b = ap length ran in omega (arith, b);
      chosen = (λ p. [], chosen_start w c.args.given.now.habit all);
      step = λ st u later is at. record { working = u; at = at; leads = refl };
    }

pub loop-process-preserved : goal.loop-process-preserved
loop-process-preserved g c =
    let w = state_of c.args.sets.now in
    let v = state_of c.loop-process.sets in
    let u = state_of c.run_clean.new.sets in
    let old = c.loop-process.invariant in
    let p = c.in-Some.process in
    let t = c.in-Some-trigger.trigger in
    let next = c.in-Some.ensures.pairs in
    let all = map (λ (q : ℕ × ℕ). q.0) c.args.list.now.pairs in
    let rest = map (λ (q : ℕ × ℕ). q.0) c.take.new.self.pairs in
    let after = c.run_clean.ensures in
    let listed : map (λ (q : ℕ × ℕ). q.0) c.loop-process.list.pairs ≡ p ∷ rest = ap (map (λ (q : ℕ × ℕ). q.0)) next.1 in
    let has : trigger_of w p ≡ Some t = sym (trigger_same w v old.rest p) ∙ sym c.in-Some-trigger.ensures.value in
    let pushed = ap (λ r. r.items) c.push.ensures in
    record {
      count = c.take.ensures.count ∙ old.count;
      clean = λ q i. old.clean q (subst (In q) (sym listed) (inr i));
      below = λ q i. old.below q (subst (In q) (sym listed) (inr i));
      ran = ap (λ ps. ps ++ rest) pushed ∙ append_assoc c.loop-process.ran.items (p ∷ []) rest ∙ ap (λ ps. c.loop-process.ran.items ++ ps) (sym listed) ∙ old.ran;
      within = subst (All (λ (q : ℕ). q < length c.args.given.now.design.now.processes)) (sym pushed) (All-push (λ (q : ℕ). q < length c.args.given.now.design.now.processes) c.loop-process.ran.items p old.within (old.below p (subst (In p) (sym listed) (inl refl))));
      places = ap (λ r. r.room) c.push.ensures ∙ old.places;
      few = let few = old.few in let more = ap length pushed in let size = length-append c.loop-process.ran.items (p ∷ []) in let less = ap length next.1 in omega (arith, few, more, size, less);
      rest = same_both w v u old.rest after.rest;
      shared = after.shared;
      same = after.same;
      ready = λ d later can. after.ready d (rest ++ later) (subst (λ ps. CanRunAll d (ps ++ later) c.loop-process.store) listed (old.ready d later can));
      pieces = after.pieces ∙ old.pieces;
      points = after.points ∙ old.points;
      first = after.first ∙ old.first;
      ranges = after.ranges ∙ old.ranges;
      marks = after.marks;
      steps = let steps = old.steps in let more = ap length pushed in let size = length-append c.loop-process.ran.items (p ∷ []) in let one = after.steps in omega (arith, steps, more, size, one);
      chosen = (
        _,
        chosen_more w c.args.given.now.habit all p t rest u.early old.chosen.0 has (early_list w v old.rest c.args.given.now.habit p t u.early after.early)
            (subst (λ ps. AreChosenBut w c.args.given.now.habit all ps old.chosen.0) listed old.chosen.1),
      );
      step = λ st start later is at.
          let given = c.args.given.now in
          let ps = c.args.notes.now.points.now in
          cleaned_run st ps later all start w v t given.habit given.codes.now given.values.now given.time is old.rest p rest c.loop-process.notes.points.now old.points has c.loop-process.store c.run_clean.new.store c.loop-process.notes c.run_clean.new.notes
          (λ x a b by dumped early here. after.step st x (rest ++ later) a b by dumped early here)
          (subst (λ qs. HasCleaned st ps qs later all start c.loop-process.store c.loop-process.notes) listed (old.step st start later is at));
    }

-- each of the list is clean
pub unreachable-requires : goal.unreachable-requires
unreachable-requires g c =
    let w = state_of c.args.sets.now in
    let v = state_of c.loop-process.sets in
    let old = c.loop-process.invariant in
    let p = c.in-Some.process in
    let listed = ap (map (λ (q : ℕ × ℕ). q.0)) c.in-Some.ensures.pairs.1 in
    let none : trigger_of w p ≡ None = sym (trigger_same w v old.rest p) ∙ sym c.in-None.ensures.value in
    false≢true (sym (ap is_some none) ∙ old.clean p (subst (In p) (sym listed) (inl refl)))

pub trigger-requires : goal.trigger-requires
trigger-requires g c =
    let old = c.loop-process.invariant in
    let listed = ap (map (λ (q : ℕ × ℕ). q.0)) c.in-Some.ensures.pairs.1 in
    let below = old.below c.in-Some.process (subst (In c.in-Some.process) (sym listed) (inl refl)) in
    let here = ap (λ (z : WakeState). z.tables.processes) old.rest ∙ c.requires.sets.tables.processes_are ∙ length-map c.args.given.now.design.now.processes process_view in
    omega (arith, below, here)

pub run_clean-requires-clause-place : goal.run_clean-requires-clause-place
run_clean-requires-clause-place g c =
    let listed = ap (map (λ (q : ℕ × ℕ). q.0)) c.in-Some.ensures.pairs.1 in
    c.loop-process.invariant.below c.in-Some.process (subst (In c.in-Some.process) (sym listed) (inl refl))

pub run_clean-requires-clause-ready : goal.run_clean-requires-clause-ready
run_clean-requires-clause-ready g c =
    let r = c.requires.ready in
    let rest = map (λ (q : ℕ × ℕ). q.0) c.take.new.self.pairs in
    let listed : map (λ (q : ℕ × ℕ). q.0) c.loop-process.list.pairs ≡ c.in-Some.process ∷ rest = ap (map (λ (q : ℕ × ℕ). q.0)) c.in-Some.ensures.pairs.1 in
    (r.0, rest ++ r.1, subst (λ ps. CanRunAll r.0 (ps ++ r.1) c.loop-process.store) listed (c.loop-process.invariant.ready r.0 r.1 r.2))

pub run_clean-requires-clause-sets : goal.run_clean-requires-clause-sets
run_clean-requires-clause-sets g c =
    step_same (state_of c.args.sets.now) (state_of c.loop-process.sets) c.loop-process.invariant.rest (design_view c.args.given.now.design.now) c.args.given.now.codes.now c.requires.sets

pub returns-clause-ran : goal.returns-clause-ran
returns-clause-ran g c =
    let xs = c.loop-process.ran.items in
    sym (ap (λ (ps : List (ℕ × ℕ)). xs ++ map (λ (q : ℕ × ℕ). q.0) ps) c.in_default.ensures.pairs.0 ∙ append-nil xs) ∙ c.loop-process.invariant.ran

pub returns-clause-ready : goal.returns-clause-ready
returns-clause-ready g c = λ d later can.
    subst (λ (ps : List (ℕ × ℕ)). CanRunAll d (map (λ (q : ℕ × ℕ). q.0) ps ++ later) c.loop-process.store) c.in_default.ensures.pairs.0 (c.loop-process.invariant.ready d later can)

pub returns-clause-chosen : goal.returns-clause-chosen
returns-clause-chosen g c =
    let r = c.loop-process.invariant.chosen in
    let all = map (λ (q : ℕ × ℕ). q.0) c.args.list.now.pairs in
    (r.0, chosen_end (state_of c.args.sets.now) c.args.given.now.habit all (map (λ (q : ℕ × ℕ). q.0) c.loop-process.list.pairs) r.0 (ap (map (λ (q : ℕ × ℕ). q.0)) c.in_default.ensures.pairs.0) r.1)

pub returns-clause-step : goal.returns-clause-step
returns-clause-step g c = λ st start later is at.
    let all = map (λ (q : ℕ × ℕ). q.0) c.args.list.now.pairs in
    cleaned_end st c.args.notes.now.points.now later all start (map (λ (q : ℕ × ℕ). q.0) c.loop-process.list.pairs) c.loop-process.store c.loop-process.notes (ap (map (λ (q : ℕ × ℕ). q.0)) c.in_default.ensures.pairs.0)
    (c.loop-process.invariant.step st start later is at)
