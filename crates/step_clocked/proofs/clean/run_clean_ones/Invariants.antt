use Rattle.std.proofs.Common.{◌≡◌, ℕ, true, ◌+◌, ◌<◌, ◌≤◌, ◌++◌, List, length, map}
use Rattle.std.specs.Prelude.{IfSome}
use Rattle.std.specs.List.{All}
use Rattle.design_model.specs.Design.{Design, In}
use Rattle.design_model.specs.View.{design_view}
use Rattle.clocked_marks.specs.AtClocked.{AtClocked, CanRunAll}
use Rattle.clocked_marks.specs.chosen_runs.chosen_early.Shared.{IsSameButEarly, IsShared}
use Rattle.clocked_marks.specs.chosen_runs.chosen_early.early_sets.WakeState.{state_of}
use Rattle.clocked_marks.specs.run_marks.cover_marks.Marks.{AreMarksOf}
use Rattle.replay_sets.specs.replay_model.Step.{Closing, Working}
use Rattle.step_clocked.specs.Runs.{IsClockedStep, runs_clean}
use Rattle.step_clocked.proofs.Chosen.{AreChosenBut}
use Rattle.step_clocked.proofs.Folds.{HasCleaned}
use Rattle.step_clocked.proofs.clean.run_clean_ones.Given as goal

-- those that ran and those on the list are all, and the runs so far lead to the end by those on the list
abbrev pub invariant-loop-process : goal.invariant-loop-process
invariant-loop-process g l =
    record {
      count : l.list.count ≡ l.fn.list.count;
      clean : (p : ℕ) → In p (map (λ (q : ℕ × ℕ). q.0) l.list.pairs) → runs_clean (state_of l.fn.sets) p ≡ true;
      below : (p : ℕ) → In p (map (λ (q : ℕ × ℕ). q.0) l.list.pairs) → p < length l.given.design.now.processes;
      ran : l.ran.items ++ map (λ (q : ℕ × ℕ). q.0) l.list.pairs ≡ map (λ (q : ℕ × ℕ). q.0) l.fn.list.pairs;
      within : All (λ (p : ℕ). p < length l.given.design.now.processes) l.ran.items;
      places : l.ran.room ≡ l.fn.ran.room;
      few : length l.ran.items + length l.list.pairs ≤ l.fn.ran.room;
      rest : IsSameButEarly (state_of l.fn.sets) (state_of l.sets);
      shared : IfSome l.shared (λ last. IsShared (state_of l.sets) l.given.habit last);
      same : design_view l.store.design.now ≡ design_view l.given.design.now;
      ready : (d : Design) (later : List ℕ) → CanRunAll d (map (λ (q : ℕ × ℕ). q.0) l.fn.list.pairs ++ later) l.fn.store → CanRunAll d (map (λ (q : ℕ × ℕ). q.0) l.list.pairs ++ later) l.store;
      pieces : l.pieces ≡ l.fn.pieces;
      points : l.notes.points.now ≡ l.fn.notes.points.now;
      first : l.notes.written.first ≡ l.fn.notes.written.first;
      ranges : l.notes.written.ranges ≡ l.fn.notes.written.ranges;
      marks : AreMarksOf l.notes.points.now l.notes.marks;
      steps : l.steps ≡ l.fn.steps + length l.ran.items;
      chosen : (early : ℕ → List ℕ) × AreChosenBut (state_of l.fn.sets) l.given.habit (map (λ (q : ℕ × ℕ). q.0) l.fn.list.pairs) (map (λ (q : ℕ × ℕ). q.0) l.list.pairs) early;
      step : (st : Closing) (w : Working) (later : List ℕ) → IsClockedStep st l.fn.notes.points.now (state_of l.fn.sets) l.given.habit l.given.codes.now l.given.values.now l.given.time
          → AtClocked st l.fn.notes.points.now w (map (λ (q : ℕ × ℕ). q.0) l.fn.list.pairs ++ later) l.fn.store l.fn.notes
          → HasCleaned st l.fn.notes.points.now (map (λ (q : ℕ × ℕ). q.0) l.list.pairs) later (map (λ (q : ℕ × ℕ). q.0) l.fn.list.pairs) w l.store l.notes;
    }

abbrev pub decreases-loop-process : goal.decreases-loop-process
decreases-loop-process g l = length l.list.pairs
