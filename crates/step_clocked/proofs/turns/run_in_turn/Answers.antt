use Rattle.std.proofs.Common.{◌≡◌, ◌∙◌, ◌++◌, [], ℕ, List, Some, ap, ap₂, arith, length, map, refl, subst, sym}
use Rattle.std.specs.Prelude.{is_some}
use Rattle.std.specs.List.{filter}
use Rattle.std.proofs.lemmas.List.{length-map}
use Rattle.design_model.specs.Design.{In}
use Rattle.design_model.specs.View.{process_view}
use Rattle.clocked_marks.specs.AtClocked.{AtClocked, CanRunAll}
use Rattle.clocked_marks.specs.chosen_runs.chosen_early.early_sets.WakeState.{WakeState, state_of, trigger_of}
use Rattle.clocked_marks.specs.run_marks.cover_points.Visits.{AreApart, AreOnce}
use Rattle.clocked_laws.proofs.replay_model.Rounds.{in_order, order_in}
use Rattle.replay_sets.specs.SetsOf.{round_of}
use Rattle.replay_sets.specs.replay_model.Step.{Working, opened, run_all_clean, run_all_weak}
use Rattle.step_clocked.specs.Runs.{AreChosenOf, clean_in_rounds, is_unclean, is_woken, runs_clean}
use Rattle.step_clocked.proofs.Chosen.{chosen_all}
use Rattle.step_clocked.proofs.Folds.{step_trigger, step_waker, weak_rest}
use Rattle.step_clocked.proofs.Members.{all_below, filter_in, filter_same, in_filter, in_pairs}
use Rattle.step_clocked.proofs.Order.{unclean_none, weak_twice}
use Rattle.step_clocked.proofs.Rooms.{all_in_turn, at_in_turn}
use Rattle.step_clocked.proofs.Rounds.{same_waiting}
use Rattle.step_clocked.proofs.Sets.{round_below, trigger_same, waker_same, woken_same}
use Rattle.step_clocked.proofs.turns.run_in_turn.Goals as goal

-- ---- those that are put by their rounds

pub put_by_round-requires-clause-processes : goal.put_by_round-requires-clause-processes
put_by_round-requires-clause-processes g c = c.requires.count ∙ sym (length-map c.args.given.now.design.now.processes process_view) ∙ sym c.requires.sets.tables.processes_are

pub put_by_round-requires-clause-places : goal.put_by_round-requires-clause-places
put_by_round-requires-clause-places g c = let count = c.requires.count in let places = c.requires.places in omega (arith, count, places)

pub put_by_round-requires-clause-ranks : goal.put_by_round-requires-clause-ranks
put_by_round-requires-clause-ranks g c = λ p clean.
    let low = round_below _ c.args.given.now.codes.now (state_of c.args.sets.now) c.requires.sets p clean in
    let all = c.requires.sets.tables.things_are in
    let ranks = c.requires.ranks in
    omega (arith, low, all, ranks)

pub put_by_round-requires-clause-later : goal.put_by_round-requires-clause-later
put_by_round-requires-clause-later g c = let count = c.requires.count in let room = c.requires.later in let cleared = ap (λ r. r.room) c.clear.ensures in omega (arith, count, room, cleared)

-- ---- the clean ones

pub run_clean_ones-requires-clause-clean : goal.run_clean_ones-requires-clause-clean
run_clean_ones-requires-clause-clean g c = λ p i.
    let w = state_of c.args.sets.now in
    let listed = map (λ (q : ℕ × ℕ). q.0) c.args.list.now.pairs in
    (in_filter (runs_clean w) p listed (in_order (round_of w) p (filter (runs_clean w) listed) (subst (In p) c.put_by_round.ensures.clean i))).1

pub run_clean_ones-requires-clause-below : goal.run_clean_ones-requires-clause-below
run_clean_ones-requires-clause-below g c =
    let w = state_of c.args.sets.now in
    let listed = map (λ (q : ℕ × ℕ). q.0) c.args.list.now.pairs in
    let n = length c.args.given.now.design.now.processes in
    all_below n (map (λ (q : ℕ × ℕ). q.0) c.put_by_round.new.by_round.pairs) (λ p i.
    in_pairs n c.args.list.now.pairs c.requires.below p (in_filter (runs_clean w) p listed (in_order (round_of w) p (filter (runs_clean w) listed) (subst (In p) c.put_by_round.ensures.clean i))).0)

pub run_clean_ones-requires-clause-ran : goal.run_clean_ones-requires-clause-ran
run_clean_ones-requires-clause-ran g c =
    let few = c.put_by_round.ensures.few in
    let count = c.requires.count in
    let room = c.requires.ran in
    let cleared = ap (λ r. r.room) c.clear-2.ensures in
    omega (arith, few, count, room, cleared)

pub run_clean_ones-requires-clause-ready : goal.run_clean_ones-requires-clause-ready
run_clean_ones-requires-clause-ready g c =
    let w = state_of c.args.sets.now in
    let listed = map (λ (q : ℕ × ℕ). q.0) c.args.list.now.pairs in
    let r = c.requires.ready in
    (r.0, filter (is_unclean w) listed, subst (λ ps. CanRunAll r.0 (ps ++ filter (is_unclean w) listed) c.args.store.now) (sym c.put_by_round.ensures.clean) (all_in_turn r.0 w listed c.args.store.now r.1))

-- ---- the others

pub run_weak_ones-requires-clause-processes : goal.run_weak_ones-requires-clause-processes
run_weak_ones-requires-clause-processes g c =
    ap (λ (z : WakeState). z.tables.processes) c.run_clean_ones.ensures.rest ∙ c.requires.sets.tables.processes_are ∙ length-map c.args.given.now.design.now.processes process_view

pub run_weak_ones-requires-clause-below : goal.run_weak_ones-requires-clause-below
run_weak_ones-requires-clause-below g c =
    let w = state_of c.args.sets.now in
    let listed = map (λ (q : ℕ × ℕ). q.0) c.args.list.now.pairs in
    let n = length c.args.given.now.design.now.processes in
    all_below n c.as_slice.result.now (λ p i. in_pairs n c.args.list.now.pairs c.requires.below p (in_filter (is_unclean w) p listed (subst (In p) (c.as_slice.ensures ∙ c.put_by_round.ensures.later) i)).0)

pub run_weak_ones-requires-clause-unclean : goal.run_weak_ones-requires-clause-unclean
run_weak_ones-requires-clause-unclean g c = λ p i.
    let w = state_of c.args.sets.now in
    let listed = map (λ (q : ℕ × ℕ). q.0) c.args.list.now.pairs in
    let j = subst (In p) (c.as_slice.ensures ∙ c.put_by_round.ensures.later) i in
    trigger_same w (state_of c.run_clean_ones.new.sets) c.run_clean_ones.ensures.rest p ∙ unclean_none w p (in_filter (is_unclean w) p listed j).1

pub run_weak_ones-requires-clause-ran : goal.run_weak_ones-requires-clause-ran
run_weak_ones-requires-clause-ran g c =
    let few = c.put_by_round.ensures.few in
    let count = c.requires.count in
    let room = c.requires.ran in
    let cleared = ap (λ r. r.room) c.clear-2.ensures in
    let places = c.run_clean_ones.ensures.places in
    let ran = ap length c.run_clean_ones.ensures.ran ∙ length-map c.put_by_round.new.by_round.pairs (λ (q : ℕ × ℕ). q.0) in
    let off = ap length c.as_slice.ensures in
    omega (arith, few, count, room, cleared, places, ran, off)

pub run_weak_ones-requires-clause-ready : goal.run_weak_ones-requires-clause-ready
run_weak_ones-requires-clause-ready g c =
    let w = state_of c.args.sets.now in
    let listed = map (λ (q : ℕ × ℕ). q.0) c.args.list.now.pairs in
    let r = c.requires.ready in
    let turn = subst (λ ps. CanRunAll r.0 (ps ++ filter (is_unclean w) listed) c.args.store.now) (sym c.put_by_round.ensures.clean) (all_in_turn r.0 w listed c.args.store.now r.1) in
    (r.0, subst (λ ps. CanRunAll r.0 ps c.run_clean_ones.new.store) (sym (c.as_slice.ensures ∙ c.put_by_round.ensures.later)) (c.run_clean_ones.ensures.ready r.0 (filter (is_unclean w) listed) turn))

-- ---- all of them

pub returns-clause-by_round : goal.returns-clause-by_round
returns-clause-by_round g c = same_waiting c.run_clean_ones.new.list c.args.by_round.now (c.run_clean_ones.ensures.count ∙ c.put_by_round.ensures.rounds) (c.run_clean_ones.ensures.empty ∙ sym c.requires.none_by_round)

pub returns-clause-ran : goal.returns-clause-ran
returns-clause-ran g c =
    let w = state_of c.args.sets.now in
    let v = state_of c.run_clean_ones.new.sets in
    let listed = map (λ (q : ℕ × ℕ). q.0) c.args.list.now.pairs in
    let same = woken_same w v c.run_clean_ones.ensures.rest in
    c.run_weak_ones.ensures.ran
    ∙ ap₂ (λ xs ys. xs ++ filter (is_woken v) ys) (c.run_clean_ones.ensures.ran ∙ c.put_by_round.ensures.clean) (c.as_slice.ensures ∙ c.put_by_round.ensures.later)
    ∙ ap (λ ys. clean_in_rounds w listed ++ ys) (filter_same (is_woken v) (is_woken w) (filter (is_unclean w) listed) same ∙ weak_twice w listed)

pub returns-clause-steps : goal.returns-clause-steps
returns-clause-steps g c =
    let clean = c.run_clean_ones.ensures.steps in
    let weak = c.run_weak_ones.ensures.steps in
    omega (arith, clean, weak)

pub returns-clause-chosen : goal.returns-clause-chosen
returns-clause-chosen g c =
    let w = state_of c.args.sets.now in
    let listed = map (λ (q : ℕ × ℕ). q.0) c.args.list.now.pairs in
    let r = c.run_clean_ones.ensures.chosen in (
      r.0,
      chosen_all w c.args.given.now.habit (clean_in_rounds w listed) listed r.0 (λ p s i trigger. order_in (round_of w) p (filter (runs_clean w) listed) (filter_in (runs_clean w) p listed i (ap is_some trigger)))
          (subst (λ ps. AreChosenOf w c.args.given.now.habit ps r.0) c.put_by_round.ensures.clean r.1),
    )

pub returns-clause-step : goal.returns-clause-step
returns-clause-step g c = λ st is of at.
    let ps = c.args.notes.now.points.now in
    let w = state_of c.args.sets.now in
    let v = state_of c.run_clean_ones.new.sets in
    let given = c.args.given.now in
    let listed = map (λ (q : ℕ × ℕ). q.0) c.args.list.now.pairs in
    let points = c.run_clean_ones.ensures.points in
    let off = filter (is_unclean w) listed in
    let put = c.put_by_round.ensures.clean in
    let cleaned : Working = run_all_clean st (clean_in_rounds w listed) (opened st) in
    let rest = c.as_slice.ensures ∙ c.put_by_round.ensures.later in
    let turn = subst (λ qs. AtClocked st ps (opened st) (qs ++ off) c.args.store.now c.args.notes.now) (sym put) (at_in_turn st ps (opened st) c.args.store.now c.args.notes.now w listed at) in
    let half = subst (λ qs. AtClocked st ps (run_all_clean st qs (opened st)) off c.run_clean_ones.new.store c.run_clean_ones.new.notes) put (c.run_clean_ones.ensures.step st (opened st) off is turn) in
    let begun = subst (λ os. AtClocked st os cleaned c.as_slice.result.now c.run_clean_ones.new.store c.run_clean_ones.new.notes) (sym points) (subst (λ xs. AtClocked st ps cleaned xs c.run_clean_ones.new.store c.run_clean_ones.new.notes) (sym rest) half) in
    let end = c.run_weak_ones.ensures.step st cleaned (subst AreApart (sym points) is.apart) (subst AreOnce (sym points) is.once) is.by
    (λ p. step_trigger st ps w given.habit given.codes.now given.values.now given.time is p ∙ sym (trigger_same w v c.run_clean_ones.ensures.rest p))
    (λ p. step_waker st ps w given.habit given.codes.now given.values.now given.time is p ∙ sym (waker_same w v c.run_clean_ones.ensures.rest p)) begun in
    let whole = weak_rest st ps w given.habit given.codes.now given.values.now given.time is listed c.as_slice.result.now of rest in
    subst (λ (u : Working). AtClocked st ps u [] c.run_weak_ones.new.store c.run_weak_ones.new.notes) whole
    (subst (λ os. AtClocked st os (run_all_weak st c.as_slice.result.now cleaned) [] c.run_weak_ones.new.store c.run_weak_ones.new.notes) points end)
