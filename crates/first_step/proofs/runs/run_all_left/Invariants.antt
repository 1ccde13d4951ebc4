use Rattle.std.proofs.Common.{◌≡◌, ℕ, ◌+◌, ◌++◌, Bool, length, take}
use Rattle.event_machine.specs.Cell.{Values}
use Rattle.four_state.specs.declared.bit.Bit.{Bit}
use Rattle.design_model.specs.Design.{Design}
use Rattle.design_model.specs.View.{design_view}
use Rattle.body_replay.specs.Runs.{runs_of}
use Rattle.body_replay.specs.Store.{Kept}
use Rattle.process_order.specs.replay_model.Start.{Starting, run_all_first}
use Rattle.process_order.specs.replay_model.Step.{Replay}
use Rattle.process_order.specs.replay_model.Tables.{Tables}
use Rattle.settling.specs.First.{AtFirst}
use Rattle.settling.specs.step_values.Loose.{has_code}
use Rattle.settling.specs.step_values.Vectors.{FitsSignals}
use Rattle.settling.specs.store_knowledge.Knows.{Knows}
use Rattle.first_step.specs.Begun.{AreActed, all_left}
use Rattle.first_step.proofs.runs.run_all_left.Given as goal

-- those so far that run have run
abbrev pub invariant-loop-process : goal.invariant-loop-process
invariant-loop-process g l =
    let m = l.rows.design.now in
    record {
      same : design_view l.store.design.now ≡ design_view m;
      known : (d : Design) × (k : Kept) × Knows d k l.store;
      fits : FitsSignals (design_view l.store.design.now) l.values;
      ran : l.ran.items ≡ l.fn.ran.items ++ all_left (design_view m) l.acted (take l.process-index l.processes);
      free : l.ran.room ≡ l.fn.ran.room;
      room : length l.scratch.saved ≡ length l.fn.scratch.saved;
      pieces : l.scratch.pieces ≡ l.fn.scratch.pieces;
      steps : l.steps ≡ l.fn.steps + length (all_left (design_view m) l.acted (take l.process-index l.processes));
      step : (d : Design) (bound : ℕ → Bool) (tables : Tables) (new : Values Bit) (before : Replay) (w : Starting) → ((s : ℕ) → bound s ≡ has_code l.rows.codes.now s) → AreActed d l.acted before → AtFirst d bound w l.fn.store l.fn.values
          → AtFirst d bound (run_all_first d bound (runs_of d) tables new before l.is_ordered (take l.process-index l.processes) w) l.store l.values;
    }
