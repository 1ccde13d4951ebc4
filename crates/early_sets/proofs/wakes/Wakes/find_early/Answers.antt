use Rattle.std.proofs.Common.{[], subst, sym, arith}
use Rattle.early_sets.specs.Once.{IsOnce}
use Rattle.early_sets.specs.Reached.{MayWakeBy}
use Rattle.early_sets.specs.Turns.{listeners, process_turns}
use Rattle.early_sets.specs.WakeState.{edges_at, state_of}
use Rattle.early_sets.proofs.Counting.{may_listen, once_none, sum_added}
use Rattle.early_sets.proofs.EarlyFound.{early_found}
use Rattle.early_sets.proofs.wakes.Wakes.find_early.Goals as goal

pub returns-clause-early : goal.returns-clause-early
returns-clause-early g c =
    let a = rw (c.clear.ensures.items, c.habit_for-habit.ensures) at c.insert_inputs.ensures.adds in
    let ps = rw c.clear-2.ensures.items at c.wake.ensures.adds in
    early_found (state_of c.args.self.now) c.args.habit c.args.block c.args.trigger c.wake.new.processes.items c.insert_inputs.new.early.items c.insert_targets.new.early.items a ps c.insert_targets.ensures.adds c.close.new.things.items c.close.ensures.things

pub invariant_of-self-clause-once : goal.invariant_of-self-clause-once
invariant_of-self-clause-once g c =
    let before = c.args.self.now.once in
    record {
      noted_once = before.noted_once;
      moves_once = before.moves_once;
      woken_once = before.woken_once;
      early_once = c.close.ensures.things_once (c.insert_targets.ensures.adds.once (c.insert_inputs.ensures.adds.once (subst IsOnce (sym c.clear.ensures.items) once_none)));
    }

pub returns-clause-turns : goal.returns-clause-turns
returns-clause-turns g c =
    let w = state_of c.args.self.now in
    let ps = rw c.clear-2.ensures.items at c.wake.ensures.adds in
    let woken = sum_added (process_turns w.tables) (MayWakeBy w.tables (edges_at w) c.args.trigger) [] c.wake.new.processes.items (listeners w.tables c.args.trigger) ps once_none (λ p m. may_listen w.tables (edges_at w) c.args.trigger p m) in
    omega (arith, c.insert_inputs.ensures.turns, c.wake.ensures.turns, c.insert_targets.ensures.turns, c.close.ensures.turns, woken)
