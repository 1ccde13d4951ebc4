use Rattle.std.proofs.Common.{◌≡◌, ◌∙◌, ⊎_elim, inl, inr, ◌++◌, ◌∷◌, [], ℕ, true, false, List, ap, arith, cond, length, map, refl, subst, sym}
use Rattle.std.specs.Prelude.{is_some, not}
use Rattle.std.specs.List.{filter}
use Rattle.std.proofs.lemmas.List.{append-nil, length-append}
use Rattle.design_model.specs.Design.{AreDistinct, In}
use Rattle.clocked_marks.specs.chosen_runs.chosen_early.early_sets.WakeState.{state_of}
use Rattle.replay_sets.specs.SetsOf.{round_of}
use Rattle.replay_sets.specs.replay_model.Step.{put_in_round, put_in_rounds}
use Rattle.wake_list.specs.Waiting.{with_process}
use Rattle.clocked_laws.proofs.replay_model.Rounds.{in_put}
use Rattle.step_clocked.specs.Runs.{is_unclean, runs_clean}
use Rattle.step_clocked.proofs.Members.{filter_passed, filter_taken, once_distinct}
use Rattle.step_clocked.proofs.Order.{not_clean, unclean_from}
use Rattle.step_clocked.proofs.Rounds.{AreRanked, length_with, named_with, not_has, ranked_with, round_is}
use Rattle.step_clocked.proofs.clean.put_by_round.Goals as goal

pub loop-process-init : goal.loop-process-init
loop-process-init c =
    let w = state_of c.args.sets.now in
    let all = map (λ (q : ℕ × ℕ). q.0) c.args.list.now.pairs in
    let none = c.requires.empty in
    record {
      count = refl;
      rounds = refl;
      later = ap (λ xs. xs ++ filter (is_unclean w) all) c.requires.none_later;
      later_places = refl;
      few = let a = ap length none in let b = ap length c.requires.none_later in let few = c.fitting.ensures.few in omega (arith, a, b, few);
      once = once_distinct all c.fitting.ensures.once;
      apart = λ p i j. subst (λ (qs : List (ℕ × ℕ)). In p (map (λ (q : ℕ × ℕ). q.0) qs)) none j;
      ranked = subst (AreRanked (round_of w)) (sym none) tt;
      clean = ap (λ (qs : List (ℕ × ℕ)). put_in_rounds (round_of w) (filter (runs_clean w) all) (map (λ (q : ℕ × ℕ). q.0) qs)) none;
    }

-- a clean one
pub loop-process-preserved-then-is_some : goal.loop-process-preserved-then-is_some
loop-process-preserved-then-is_some c =
    let w = state_of c.args.sets.now in
    let old = c.loop-process.invariant in
    let p = c.in-Some.process in
    let next = c.in-Some.ensures.pairs in
    let rest = map (λ (q : ℕ × ℕ). q.0) c.take.new.self.pairs in
    let before = map (λ (q : ℕ × ℕ). q.0) c.loop-process.by_round.pairs in
    let listed : map (λ (q : ℕ × ℕ). q.0) c.loop-process.list.pairs ≡ p ∷ rest = ap (map (λ (q : ℕ × ℕ). q.0)) next.1 in
    let clean : runs_clean w p ≡ true = ap is_some (sym c.trigger.ensures.value) ∙ sym c.is_some.ensures ∙ c.if-is_some.true in
    let once = subst AreDistinct listed old.once in
    let fresh = not_has p before (λ j. old.apart p (subst (In p) (sym listed) (inl refl)) j) in
    let round = round_is w p c.round.result clean c.round.ensures in
    let put : c.put.new.self.pairs ≡ with_process p (round_of w p) c.loop-process.by_round.pairs =
    c.put.ensures.pairs ∙ ap (λ b. cond b (with_process p c.round.result c.loop-process.by_round.pairs) c.loop-process.by_round.pairs) (c.put.ensures.there ∙ ap not fresh) ∙ ap (λ n. with_process p n c.loop-process.by_round.pairs) round in
    let named : map (λ (q : ℕ × ℕ). q.0) c.put.new.self.pairs ≡ put_in_round (round_of w) p before = ap (map (λ (q : ℕ × ℕ). q.0)) put ∙ named_with (round_of w) p c.loop-process.by_round.pairs old.ranked in
    record {
      count = c.take.ensures.count ∙ old.count;
      rounds = c.put.ensures.count ∙ old.rounds;
      later = ap (λ xs. c.loop-process.later.items ++ xs) (filter_passed (is_unclean w) p rest (not_clean w p clean)) ∙ ap (λ ps. c.loop-process.later.items ++ filter (is_unclean w) ps) (sym listed) ∙ old.later;
      later_places = old.later_places;
      few = let few = old.few in let more = ap length put in let size = length_with (round_of w) p c.loop-process.by_round.pairs in let less = ap length next.1 in omega (arith, few, more, size, less);
      once = once.1;
      apart = λ q i j. ⊎_elim (λ same. once.0 (subst (λ z. In z rest) (sym same) i)) (λ k. old.apart q (subst (In q) (sym listed) (inr i)) k) (in_put (round_of w) p q before (subst (In q) named j));
      ranked = subst (AreRanked (round_of w)) (sym put) (ranked_with (round_of w) p c.loop-process.by_round.pairs old.ranked);
      clean =
          ap (put_in_rounds (round_of w) (filter (runs_clean w) rest)) named
          ∙ ap (λ xs. put_in_rounds (round_of w) xs before) (ap (λ b. cond b (p ∷ filter (runs_clean w) rest) (filter (runs_clean w) rest)) (sym clean))
          ∙ ap (λ ps. put_in_rounds (round_of w) (filter (runs_clean w) ps) before) (sym listed) ∙ old.clean;
    }

-- another one
pub loop-process-preserved : goal.loop-process-preserved
loop-process-preserved c =
    let w = state_of c.args.sets.now in
    let old = c.loop-process.invariant in
    let p = c.in-Some.process in
    let next = c.in-Some.ensures.pairs in
    let rest = map (λ (q : ℕ × ℕ). q.0) c.take.new.self.pairs in
    let before = map (λ (q : ℕ × ℕ). q.0) c.loop-process.by_round.pairs in
    let listed : map (λ (q : ℕ × ℕ). q.0) c.loop-process.list.pairs ≡ p ∷ rest = ap (map (λ (q : ℕ × ℕ). q.0)) next.1 in
    let clean : runs_clean w p ≡ false = ap is_some (sym c.trigger.ensures.value) ∙ sym c.is_some.ensures ∙ c.if-is_some.false in
    let pushed = ap (λ r. r.items) c.push.ensures in
    let once = subst AreDistinct listed old.once in
    record {
      count = c.take.ensures.count ∙ old.count;
      rounds = old.rounds;
      later = ap (λ ps. ps ++ filter (is_unclean w) rest) pushed ∙ filter_taken (is_unclean w) c.loop-process.later.items p rest (unclean_from w p clean) ∙ ap (λ ps. c.loop-process.later.items ++ filter (is_unclean w) ps) (sym listed) ∙ old.later;
      later_places = ap (λ r. r.room) c.push.ensures ∙ old.later_places;
      few = let few = old.few in let more = ap length pushed in let size = length-append c.loop-process.later.items (p ∷ []) in let less = ap length next.1 in omega (arith, few, more, size, less);
      once = once.1;
      apart = λ q i j. old.apart q (subst (In q) (sym listed) (inr i)) j;
      ranked = old.ranked;
      clean =
          ap (λ xs. put_in_rounds (round_of w) xs before) (filter_passed (runs_clean w) p rest clean)
          ∙ ap (λ ps. put_in_rounds (round_of w) (filter (runs_clean w) ps) before) (sym listed) ∙ old.clean;
    }

pub trigger-requires : goal.trigger-requires
trigger-requires c =
    let below = c.in-Some.ensures.below in
    let count = c.loop-process.invariant.count in
    let many = c.requires.processes in
    omega (arith, below, count, many)

pub round-requires-clause-process : goal.round-requires-clause-process
round-requires-clause-process c =
    let below = c.in-Some.ensures.below in
    let count = c.loop-process.invariant.count in
    let many = c.requires.processes in
    omega (arith, below, count, many)

pub round-requires-clause-clean : goal.round-requires-clause-clean
round-requires-clause-clean c = ap is_some (sym c.trigger.ensures.value) ∙ sym c.is_some.ensures ∙ c.if-is_some.true

pub put-requires-clause-process : goal.put-requires-clause-process
put-requires-clause-process c =
    let below = c.in-Some.ensures.below in
    let count = c.loop-process.invariant.count in
    let same = c.loop-process.invariant.rounds in
    let places = c.requires.places in
    omega (arith, below, count, same, places)

pub put-requires-clause-rank : goal.put-requires-clause-rank
put-requires-clause-rank c =
    let w = state_of c.args.sets.now in
    let p = c.in-Some.process in
    let clean : runs_clean w p ≡ true = ap is_some (sym c.trigger.ensures.value) ∙ sym c.is_some.ensures ∙ c.if-is_some.true in
    let is = round_is w p c.round.result clean c.round.ensures in
    let low = c.requires.ranks p clean in
    let same = c.loop-process.invariant.rounds in
    omega (arith, is, low, same)

pub returns-clause-later : goal.returns-clause-later
returns-clause-later c =
    let w = state_of c.args.sets.now in
    let xs = c.loop-process.later.items in
    sym (ap (λ (ps : List (ℕ × ℕ)). xs ++ filter (is_unclean w) (map (λ (q : ℕ × ℕ). q.0) ps)) c.in_default.ensures.pairs.0 ∙ append-nil xs) ∙ c.loop-process.invariant.later

pub returns-clause-few : goal.returns-clause-few
returns-clause-few c = let few = c.loop-process.invariant.few in omega (arith, few)

pub returns-clause-clean : goal.returns-clause-clean
returns-clause-clean c =
    let w = state_of c.args.sets.now in
    sym (ap (λ (ps : List (ℕ × ℕ)). put_in_rounds (round_of w) (filter (runs_clean w) (map (λ (q : ℕ × ℕ). q.0) ps)) (map (λ (q : ℕ × ℕ). q.0) c.loop-process.by_round.pairs)) c.in_default.ensures.pairs.0) ∙ c.loop-process.invariant.clean
