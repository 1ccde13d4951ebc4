use Rattle.std.proofs.Common.{◌≡◌, ◌∙◌, ◌+◌, ◌<◌, ◌++◌, ◌∷◌, [], ℕ, ap, append_assoc, arith, length, map, refl, subst, sym}
use Rattle.std.specs.List.{All}
use Rattle.std.proofs.lemmas.List.{length-append}
use Rattle.std.proofs.lemmas.List.Elements.{All-head, All-push, All-tail}
use Rattle.design_model.specs.Design.{IsClocked, process_at}
use Rattle.design_model.specs.View.{design_view}
use Rattle.early_sets.specs.WakeState.{state_of}
use Rattle.step_runs.specs.Runs.{is_ordered}
use Rattle.step_runs.proofs.Listed.{HasLed, led_more, led_start}
use Rattle.step_runs.proofs.runs.run_all.Goals as goal

pub loop-process-init : goal.loop-process-init
loop-process-init g c =
    let empty = c.clear.ensures in
    record {
      count = refl;
      settles = c.requires.settles;
      ran = ap (λ r. r.items ++ map (λ (q : ℕ × ℕ). q.0) c.args.list.now.pairs) empty;
      within = subst (All (λ (p : ℕ). p < length c.args.rows.now.design.now.processes)) (sym (ap (λ r. r.items) empty)) (λ k d l. absurd (omega (arith, l)));
      places = ap (λ r. r.room) empty;
      few = let none = ap (λ r. length r.items) empty in let few = c.fitting.ensures.few in let count = c.requires.count in omega (arith, none, few, count);
      same = c.requires.same;
      known = c.requires.known;
      fits = c.requires.fits;
      flags = refl;
      room = refl;
      pieces = refl;
      points = refl;
      first = refl;
      ranges = refl;
      marks = c.requires.marks;
      steps = refl {a = c.args.steps.now + length c.args.list.now.pairs};
      step = λ st run words at. led_start st c.args.notes.now.points.now c.args.order.now c.args.ordered (map (λ (q : ℕ × ℕ). q.0) c.args.list.now.pairs) c.args.rows.now.wakes.now c.args.rows.now.codes.now c.args.found.now.changed.now.items c.args.found.now.time run
          c.args.store.now c.args.values.now c.args.found.now.words.now (state_of c.args.found.now.sets.now) c.args.acted.now c.args.notes.now.marks words at;
    }

pub run_next-requires-clause-settles : goal.run_next-requires-clause-settles
run_next-requires-clause-settles g c =
    let m = design_view c.args.rows.now.design.now in
    let next = c.in-Some.ensures.pairs in
    All-head (λ (q : ℕ × ℕ). IsClocked (process_at m q.0) → ⊥) (c.in-Some.process, next.0) c.take.new.self.pairs (subst (All (λ (q : ℕ × ℕ). IsClocked (process_at m q.0) → ⊥)) next.1 c.loop-process.invariant.settles)

pub loop-process-preserved : goal.loop-process-preserved
loop-process-preserved g c =
    let m = design_view c.args.rows.now.design.now in
    let old = c.loop-process.invariant in
    let p = c.in-Some.process in
    let next = c.in-Some.ensures.pairs in
    let rest = map (λ (q : ℕ × ℕ). q.0) c.take.new.self.pairs in
    let pushed = ap (λ r. r.items) c.push.ensures in
    let after = c.run_next.ensures in
    let listed : map (λ (q : ℕ × ℕ). q.0) c.loop-process.list.pairs ≡ p ∷ rest = ap (map (λ (q : ℕ × ℕ). q.0)) next.1 in
    let all : c.loop-process.ran.items ++ p ∷ rest ≡ map (λ (q : ℕ × ℕ). q.0) c.args.list.now.pairs = ap (λ ps. c.loop-process.ran.items ++ ps) (sym listed) ∙ old.ran in
    record {
      count = c.take.ensures.count ∙ old.count;
      settles = All-tail (λ (q : ℕ × ℕ). IsClocked (process_at m q.0) → ⊥) (p, next.0) c.take.new.self.pairs (subst (All (λ (q : ℕ × ℕ). IsClocked (process_at m q.0) → ⊥)) next.1 old.settles);
      ran = ap (λ ps. ps ++ rest) pushed ∙ append_assoc c.loop-process.ran.items (p ∷ []) rest ∙ all;
      within =
          let below = c.in-Some.ensures.below in
          let count = old.count in
          let many = c.requires.count in
          let inside : p < length c.args.rows.now.design.now.processes = omega (arith, below, count, many) in
          subst (All (λ (q : ℕ). q < length c.args.rows.now.design.now.processes)) (sym pushed) (All-push (λ (q : ℕ). q < length c.args.rows.now.design.now.processes) c.loop-process.ran.items p old.within inside);
      places = ap (λ r. r.room) c.push.ensures ∙ old.places;
      few = let few = old.few in let more = ap length pushed in let size = length-append c.loop-process.ran.items (p ∷ []) in let less = ap length next.1 in omega (arith, few, more, size, less);
      same = after.same;
      known = after.known;
      fits = after.fits;
      flags = after.flags ∙ old.flags;
      room = after.room ∙ old.room;
      pieces = after.pieces ∙ old.pieces;
      points = after.points ∙ old.points;
      first = after.first ∙ old.first;
      ranges = after.ranges ∙ old.ranges;
      marks = after.marks;
      steps = let steps = old.steps in let more = after.steps in let less = ap length next.1 in omega (arith, steps, more, less);
      step = λ st run words at.
          led_more st c.args.notes.now.points.now c.args.order.now c.args.ordered (map (λ (q : ℕ × ℕ). q.0) c.args.list.now.pairs) c.args.rows.now.wakes.now c.args.rows.now.codes.now c.args.found.now.changed.now.items c.args.found.now.time run
          c.loop-process.ran.items p rest all c.loop-process.notes.points.now old.points c.is_ordered-is_kept.result c.is_ordered-is_kept.ensures
          c.loop-process.store c.run_next.new.store c.loop-process.values c.run_next.new.values c.args.found.now.words.now (state_of c.args.found.now.sets.now) c.loop-process.acted c.run_next.new.acted c.loop-process.notes.marks c.run_next.new.notes.marks
          (λ w apart once is touched here. after.step st w apart once is touched here)
          (subst (λ ps. HasLed st c.args.notes.now.points.now (is_ordered c.args.order.now c.args.ordered) ps c.loop-process.store c.loop-process.values c.args.found.now.words.now (state_of c.args.found.now.sets.now) c.loop-process.acted c.loop-process.notes.marks) listed (old.step st run words at));
    }
