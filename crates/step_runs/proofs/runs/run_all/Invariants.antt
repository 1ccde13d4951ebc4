use Rattle.std.proofs.Common.{◌≡◌, ℕ, ◌+◌, ◌<◌, ◌≤◌, ◌++◌, length, map}
use Rattle.std.specs.List.{All}
use Rattle.body_replay.specs.Store.{Kept}
use Rattle.run_marks.specs.cover_marks.Marks.{AreMarksOf}
use Rattle.design_model.specs.Design.{Design, IsClocked, process_at}
use Rattle.design_model.specs.View.{design_view}
use Rattle.early_sets.specs.WakeState.{state_of}
use Rattle.settling.specs.replay_model.Step.{Closing, clocked_run, settle_start}
use Rattle.settling.specs.step_parts.AtStep.{AtStep}
use Rattle.settling.specs.step_values.Vectors.{FitsSignals}
use Rattle.settling.specs.store_knowledge.Knows.{Knows}
use Rattle.settling.specs.Wakes.{HasWordChanges}
use Rattle.step_runs.specs.Runs.{IsRunOf, is_ordered}
use Rattle.step_runs.proofs.Listed.{HasLed}
use Rattle.step_runs.proofs.runs.run_all.Given as goal

-- those that ran and those on the list are all, and the runs so far lead to the end of the step by those on the list
abbrev pub invariant-loop-process : goal.invariant-loop-process
invariant-loop-process g l =
    record {
      count : l.list.count ≡ l.fn.list.count;
      settles : All (λ (q : ℕ × ℕ). IsClocked (process_at (design_view l.rows.design.now) q.0) → ⊥) l.list.pairs;
      ran : l.ran.items ++ map (λ (q : ℕ × ℕ). q.0) l.list.pairs ≡ map (λ (q : ℕ × ℕ). q.0) l.fn.list.pairs;
      within : All (λ (p : ℕ). p < length l.rows.design.now.processes) l.ran.items;
      places : l.ran.room ≡ l.fn.ran.room;
      few : length l.ran.items + length l.list.pairs ≤ length l.rows.design.now.processes;
      same : design_view l.store.design.now ≡ design_view l.rows.design.now;
      known : (d : Design) × (k : Kept) × Knows d k l.store;
      fits : FitsSignals (design_view l.store.design.now) l.values;
      flags : length l.acted ≡ length l.fn.acted;
      room : length l.scratch.saved ≡ length l.fn.scratch.saved;
      pieces : l.scratch.pieces ≡ l.fn.scratch.pieces;
      points : l.notes.points.now ≡ l.fn.notes.points.now;
      first : l.notes.written.first ≡ l.fn.notes.written.first;
      ranges : l.notes.written.ranges ≡ l.fn.notes.written.ranges;
      marks : AreMarksOf l.notes.points.now l.notes.marks;
      steps : l.steps + length l.list.pairs ≡ l.fn.steps + length l.fn.list.pairs;
      step : (st : Closing) → IsRunOf st l.fn.notes.points.now l.order l.ordered (map (λ (q : ℕ × ℕ). q.0) l.fn.list.pairs) l.rows.wakes.now l.rows.codes.now l.found.changed.now.items l.found.time
          → HasWordChanges st (settle_start st (clocked_run st)).kept l.found.words.now
          → AtStep st l.fn.notes.points.now (settle_start st (clocked_run st)) l.fn.store l.fn.values (state_of l.found.sets.now) l.fn.acted l.fn.notes.marks
          → HasLed st l.fn.notes.points.now (is_ordered l.order l.ordered) (map (λ (q : ℕ × ℕ). q.0) l.list.pairs) l.store l.values l.found.words.now (state_of l.found.sets.now) l.acted l.notes.marks;
    }

abbrev pub decreases-loop-process : goal.decreases-loop-process
decreases-loop-process g l = length l.list.pairs
