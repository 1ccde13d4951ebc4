use Rattle.std.proofs.Common.{subst, sym, arith}
use Rattle.early_sets.specs.Once.{IsOnce}
use Rattle.early_sets.specs.WakeState.{edges_at, nothing_left, state_of}
use Rattle.early_sets.proofs.Counting.{once_none}
use Rattle.early_sets.proofs.EarlyFound.{settled_moves, settled_woken}
use Rattle.early_sets.proofs.wakes.Wakes.find_moves.Goals as goal

pub returns-clause-moves : goal.returns-clause-moves
returns-clause-moves g c =
    let w = state_of c.args.self.now in
    let copied = rw c.clear.ensures.items at c.insert_members.ensures.adds in
    record {
      moves = settled_moves w.tables (edges_at w) nothing_left w.noted c.insert_members.new.into.items copied c.close.new.things.items c.close.ensures.things;
      woken = settled_woken w.tables (edges_at w) nothing_left w.noted c.insert_members.new.into.items copied c.close.new.processes.items c.close.ensures.processes;
    }

pub invariant_of-self-clause-once : goal.invariant_of-self-clause-once
invariant_of-self-clause-once g c =
    record {
      noted_once = c.args.self.now.once.noted_once;
      moves_once = c.close.ensures.things_once (c.insert_members.ensures.adds.once (subst IsOnce (sym c.clear.ensures.items) once_none));
      woken_once = c.close.ensures.processes_once;
      early_once = c.args.self.now.once.early_once;
    }

pub returns-clause-turns : goal.returns-clause-turns
returns-clause-turns g c = omega (arith, c.insert_members.ensures.turns, c.close.ensures.turns)
