use Rattle.std.proofs.Common.{◌≡◌, ℕ, ◌+◌, ◌<◌, ◌≤◌, ◌++◌, drop, length, take}
use Rattle.std.specs.List.{All, filter}
use Rattle.design_model.specs.Design.{Design}
use Rattle.design_model.specs.View.{design_view}
use Rattle.clocked_marks.specs.AtClocked.{AtClocked, CanRunAll}
use Rattle.clocked_marks.specs.chosen_runs.chosen_early.early_sets.WakeState.{state_of, trigger_of, waker_of}
use Rattle.clocked_marks.specs.chosen_runs.clocked_block.OneRun.{IsRunBy}
use Rattle.clocked_marks.specs.run_marks.cover_marks.Marks.{AreMarksOf}
use Rattle.clocked_marks.specs.run_marks.cover_points.Visits.{AreApart, AreOnce}
use Rattle.replay_sets.specs.replay_model.Step.{Closing, Working}
use Rattle.step_clocked.specs.Runs.{is_woken}
use Rattle.step_clocked.proofs.Folds.{HasWeakened}
use Rattle.step_clocked.proofs.weak.run_weak_ones.Given as goal

-- those so far that can wake ran, and their runs lead to the end by those that are left
abbrev pub invariant-loop-process : goal.invariant-loop-process
invariant-loop-process g l =
    record {
      ran : l.ran.items ≡ l.fn.ran.items ++ filter (is_woken (state_of l.sets)) (take l.process-index l.later);
      within : All (λ (p : ℕ). p < length l.given.design.now.processes) l.ran.items;
      places : l.ran.room ≡ l.fn.ran.room;
      few : length l.ran.items ≤ length l.fn.ran.items + l.process-index;
      same : design_view l.store.design.now ≡ design_view l.given.design.now;
      ready : (d : Design) × CanRunAll d (drop l.process-index l.later) l.store;
      pieces : l.pieces ≡ l.fn.pieces;
      points : l.notes.points.now ≡ l.fn.notes.points.now;
      first : l.notes.written.first ≡ l.fn.notes.written.first;
      ranges : l.notes.written.ranges ≡ l.fn.notes.written.ranges;
      marks : AreMarksOf l.notes.points.now l.notes.marks;
      steps : l.steps + length l.fn.ran.items ≡ l.fn.steps + length l.ran.items;
      step : (st : Closing) (w : Working) → AreApart l.fn.notes.points.now → AreOnce l.fn.notes.points.now → IsRunBy st l.given.time
          → ((p : ℕ) → st.sets.trigger p ≡ trigger_of (state_of l.sets) p) → ((p : ℕ) → st.sets.wakes p ≡ waker_of (state_of l.sets) p)
          → AtClocked st l.fn.notes.points.now w l.later l.fn.store l.fn.notes
          → HasWeakened st l.fn.notes.points.now (drop l.process-index l.later) l.later w l.store l.notes;
    }
