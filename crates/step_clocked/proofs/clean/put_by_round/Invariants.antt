use Rattle.std.proofs.Common.{◌≡◌, ℕ, ◌+◌, ◌≤◌, ◌++◌, length, map}
use Rattle.std.specs.List.{filter}
use Rattle.design_model.specs.Design.{AreDistinct, In}
use Rattle.clocked_marks.specs.chosen_runs.chosen_early.early_sets.WakeState.{state_of}
use Rattle.replay_sets.specs.SetsOf.{round_of}
use Rattle.replay_sets.specs.replay_model.Step.{put_in_rounds}
use Rattle.step_clocked.specs.Runs.{clean_in_rounds, is_unclean, runs_clean}
use Rattle.step_clocked.proofs.Rounds.{AreRanked}
use Rattle.step_clocked.proofs.clean.put_by_round.Given as goal

-- those that were put by their rounds, with the clean ones of the list, are all clean ones, and those that were put off, with the others, all others
abbrev pub invariant-loop-process : goal.invariant-loop-process
invariant-loop-process l =
    record {
      count : l.list.count ≡ l.fn.list.count;
      rounds : l.by_round.count ≡ l.fn.by_round.count;
      later : l.later.items ++ filter (is_unclean (state_of l.sets)) (map (λ (q : ℕ × ℕ). q.0) l.list.pairs) ≡ filter (is_unclean (state_of l.sets)) (map (λ (q : ℕ × ℕ). q.0) l.fn.list.pairs);
      later_places : l.later.room ≡ l.fn.later.room;
      few : length l.by_round.pairs + length l.later.items + length l.list.pairs ≤ l.fn.list.count;
      once : AreDistinct (map (λ (q : ℕ × ℕ). q.0) l.list.pairs);
      apart : (p : ℕ) → In p (map (λ (q : ℕ × ℕ). q.0) l.list.pairs) → In p (map (λ (q : ℕ × ℕ). q.0) l.by_round.pairs) → ⊥;
      ranked : AreRanked (round_of (state_of l.sets)) l.by_round.pairs;
      clean : put_in_rounds (round_of (state_of l.sets)) (filter (runs_clean (state_of l.sets)) (map (λ (q : ℕ × ℕ). q.0) l.list.pairs)) (map (λ (q : ℕ × ℕ). q.0) l.by_round.pairs) ≡ clean_in_rounds (state_of l.sets) (map (λ (q : ℕ × ℕ). q.0) l.fn.list.pairs);
    }

abbrev pub decreases-loop-process : goal.decreases-loop-process
decreases-loop-process l = length l.list.pairs
