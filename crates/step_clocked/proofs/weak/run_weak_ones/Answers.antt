use Rattle.std.proofs.Common.{◌≡◌, ◌∙◌, ◌+◌, ◌<◌, ◌++◌, ◌∷◌, [], ℕ, Some, None, ap, arith, drop, get_or, length, refl, subst, sym, take}
use Rattle.std.specs.Prelude.{is_some}
use Rattle.std.specs.List.{All, filter}
use Rattle.std.proofs.lemmas.List.{append-nil, drop_all, length-append, take_all, take_more}
use Rattle.std.proofs.lemmas.List.Elements.{All-push}
use Rattle.clocked_marks.specs.AtClocked.{CanRunAll}
use Rattle.clocked_marks.specs.chosen_runs.chosen_early.early_sets.WakeState.{state_of, waker_of}
use Rattle.step_clocked.specs.Runs.{is_woken}
use Rattle.step_clocked.proofs.Folds.{HasWeakened, weakened_end, weakened_past, weakened_run}
use Rattle.step_clocked.proofs.Members.{next_in, next_left, ran_less, ran_more}
use Rattle.step_clocked.proofs.Rooms.{all_left_out}
use Rattle.step_clocked.proofs.weak.run_weak_ones.Goals as goal

pub loop-process-init : goal.loop-process-init
loop-process-init g c = record {
  ran = sym (append-nil c.args.ran.now.items);
  within = c.requires.within;
  places = refl;
  few = omega arith;
  same = c.requires.same;
  ready = c.requires.ready;
  pieces = refl;
  points = refl;
  first = refl;
  ranges = refl;
  marks = c.requires.marks;
  steps = omega arith;
  step = λ st start apart once by triggers wakers at. record { working = start; at = at; leads = refl };
}

pub waker-requires : goal.waker-requires
waker-requires g c =
    let low = c.requires.below c.loop-process.process-index 0 c.loop-process-test.true in
    let count = c.requires.processes in
    omega (arith, low, count)

pub run_weak-requires-clause-ready : goal.run_weak-requires-clause-ready
run_weak-requires-clause-ready g c =
    let r = c.loop-process.invariant.ready in
    (r.0, drop (c.loop-process.process-index + 1) c.args.later.now, subst (λ xs. CanRunAll r.0 xs c.loop-process.store) (next_left c.args.later.now c.loop-process.process-index c.loop-process-test.true) r.1)

pub loop-process-preserved : goal.loop-process-preserved
loop-process-preserved g c =
    let w = state_of c.args.sets.now in
    let old = c.loop-process.invariant in
    let xs = c.args.later.now in
    let i = c.loop-process.process-index in
    let p = get_or xs i 0 in
    let s = c.in-Some.waker in
    let after = c.run_weak.ensures in
    let n = length c.args.given.now.design.now.processes in
    let left = next_left xs i c.loop-process-test.true in
    let taken = take_more xs i 0 c.loop-process-test.true in
    let pushed = ap (λ r. r.items) c.push.ensures in
    let some : waker_of w p ≡ Some s = sym c.in-Some.ensures.value in
    record {
      ran = pushed ∙ ran_more (is_woken w) c.args.ran.now.items c.loop-process.ran.items (take i xs) (take (i + 1) xs) p taken (ap is_some some) old.ran;
      within =
          let here = c.requires.below i 0 c.loop-process-test.true in
          subst (All (λ (q : ℕ). q < n)) (sym pushed) (All-push (λ (q : ℕ). q < n) c.loop-process.ran.items p old.within here);
      places = ap (λ r. r.room) c.push.ensures ∙ old.places;
      few = let few = old.few in let more = ap length pushed in let size = length-append c.loop-process.ran.items (p ∷ []) in omega (arith, few, more, size);
      same = after.same;
      ready = (old.ready.0, after.ready old.ready.0 (drop (i + 1) xs) (subst (λ ys. CanRunAll old.ready.0 ys c.loop-process.store) left old.ready.1));
      pieces = after.pieces ∙ old.pieces;
      points = after.points ∙ old.points;
      first = after.first ∙ old.first;
      ranges = after.ranges ∙ old.ranges;
      marks = after.marks;
      steps = let steps = old.steps in let more = ap length pushed in let size = length-append c.loop-process.ran.items (p ∷ []) in let one = after.steps in omega (arith, steps, more, size, one);
      step = λ st start apart once by triggers wakers at.
          weakened_run st c.args.notes.now.points.now xs start c.args.given.now.time p s (drop (i + 1) xs) c.loop-process.notes.points.now old.points apart once by
          (triggers p ∙ c.requires.unclean p (next_in xs i c.loop-process-test.true)) (wakers p ∙ some) c.loop-process.store c.run_weak.new.store c.loop-process.notes c.run_weak.new.notes
          (λ x a b t here. after.step st x (drop (i + 1) xs) a b t here)
          (subst (λ ys. HasWeakened st c.args.notes.now.points.now ys xs start c.loop-process.store c.loop-process.notes) left (old.step st start apart once by triggers wakers at));
    }

pub loop-process-preserved-in_default : goal.loop-process-preserved-in_default
loop-process-preserved-in_default g c =
    let w = state_of c.args.sets.now in
    let old = c.loop-process.invariant in
    let xs = c.args.later.now in
    let i = c.loop-process.process-index in
    let p = get_or xs i 0 in
    let left = next_left xs i c.loop-process-test.true in
    let taken = take_more xs i 0 c.loop-process-test.true in
    let none : waker_of w p ≡ None = sym c.in_default.ensures.value in
    record {
      ran = ran_less (is_woken w) c.args.ran.now.items c.loop-process.ran.items (take i xs) (take (i + 1) xs) p taken (ap is_some none) old.ran;
      within = old.within;
      places = old.places;
      few = let few = old.few in omega (arith, few);
      same = old.same;
      ready = (old.ready.0, all_left_out old.ready.0 p (drop (i + 1) xs) c.loop-process.store (subst (λ ys. CanRunAll old.ready.0 ys c.loop-process.store) left old.ready.1));
      pieces = old.pieces;
      points = old.points;
      first = old.first;
      ranges = old.ranges;
      marks = old.marks;
      steps = old.steps;
      step = λ st start apart once by triggers wakers at.
          weakened_past st c.args.notes.now.points.now xs start p (drop (i + 1) xs) c.loop-process.store c.loop-process.notes
          (triggers p ∙ c.requires.unclean p (next_in xs i c.loop-process-test.true)) (wakers p ∙ none)
          (subst (λ ys. HasWeakened st c.args.notes.now.points.now ys xs start c.loop-process.store c.loop-process.notes) left (old.step st start apart once by triggers wakers at));
    }

pub returns-clause-ran : goal.returns-clause-ran
returns-clause-ran g c =
    c.loop-process.invariant.ran ∙ ap (λ ys. c.args.ran.now.items ++ filter (is_woken (state_of c.args.sets.now)) ys) (take_all c.loop-process.process-index c.args.later.now c.loop-process-test.false)

pub returns-clause-ready : goal.returns-clause-ready
returns-clause-ready g c =
    let r = c.loop-process.invariant.ready in
    (r.0, subst (λ ys. CanRunAll r.0 ys c.loop-process.store) (drop_all c.loop-process.process-index c.args.later.now c.loop-process-test.false) r.1)

pub returns-clause-step : goal.returns-clause-step
returns-clause-step g c = λ st start apart once by triggers wakers at.
    weakened_end st c.args.notes.now.points.now c.args.later.now start (drop c.loop-process.process-index c.args.later.now) c.loop-process.store c.loop-process.notes (drop_all c.loop-process.process-index c.args.later.now c.loop-process-test.false)
    (c.loop-process.invariant.step st start apart once by triggers wakers at)
