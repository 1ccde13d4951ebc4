use Rattle.std.proofs.Common.{◌≡◌, ◌+◌, ◌*◌, Bool, drop, map, max, true, ℕ}
use Rattle.design_model.specs.Shape.{are_bodies, is_arms}
use Rattle.design_model.specs.View.{arms_of, stmt_view, stmts_of}
use Rattle.design_model.specs.declared.tree.Stmt.{size-Stmt}
use Rattle.value_store.specs.body_replay.Contract.{weak_queue_in, weak_queue_of, weak_writes_in, weak_writes_of}
use Rattle.value_store.specs.Rooms.{arm_view}
use Rattle.open_tests.specs.Weights.{all_queues, arms_queues}
use Rattle.weak_runs.specs.Makes.{at}
use Rattle.weak_runs.proofs.Making.{GoesOn}
use Rattle.weak_runs.proofs.statement.+statements.Given as goal

-- with the assignments of the rest of the statements all are made
abbrev pub invariant-write_all-loop-stmt : goal.invariant-write_all-loop-stmt
invariant-write_all-loop-stmt g l =
    record {
      lawful : are_bodies (g.S.Reads.scene l.fn.store).design (stmts_of (map stmt_view (drop l.stmt-index l.stmts))) ≡ true;
      pieces : l.pieces ≡ l.fn.pieces;
      goes : GoesOn (weak_writes_of (g.S.Reads.scene l.fn.store).design (stmts_of (map stmt_view l.stmts))) (weak_queue_of (g.S.Reads.scene l.fn.store).design (stmts_of (map stmt_view l.stmts))) (all_queues (stmts_of (map stmt_view l.stmts))) (at (g.S.Bodies.under l.fn.store) (g.S.Reads.scene l.fn.store) (g.S.Bodies.queued l.fn.store) (g.S.Bodies.around l.fn.store) (g.S.Bodies.rooms l.fn.store)) (at (g.S.Bodies.under l.store) (g.S.Reads.scene l.store) (g.S.Bodies.queued l.store) (g.S.Bodies.around l.store) (g.S.Bodies.rooms l.store)) (weak_writes_of (g.S.Reads.scene l.fn.store).design (stmts_of (map stmt_view (drop l.stmt-index l.stmts)))) (weak_queue_of (g.S.Reads.scene l.fn.store).design (stmts_of (map stmt_view (drop l.stmt-index l.stmts)))) (all_queues (stmts_of (map stmt_view (drop l.stmt-index l.stmts))));
    }

-- the same of arms
abbrev pub invariant-write_arms-loop-arm : goal.invariant-write_arms-loop-arm
invariant-write_arms-loop-arm g l =
    record {
      lawful : (w : ℕ) × (signed : Bool) × (is_arms (g.S.Reads.scene l.fn.store).design w signed (arms_of (map arm_view (drop l.arm-index l.arms))) ≡ true);
      pieces : l.pieces ≡ l.fn.pieces;
      goes : GoesOn (weak_writes_in (g.S.Reads.scene l.fn.store).design (arms_of (map arm_view l.arms))) (weak_queue_in (g.S.Reads.scene l.fn.store).design (arms_of (map arm_view l.arms))) (arms_queues (arms_of (map arm_view l.arms))) (at (g.S.Bodies.under l.fn.store) (g.S.Reads.scene l.fn.store) (g.S.Bodies.queued l.fn.store) (g.S.Bodies.around l.fn.store) (g.S.Bodies.rooms l.fn.store)) (at (g.S.Bodies.under l.store) (g.S.Reads.scene l.store) (g.S.Bodies.queued l.store) (g.S.Bodies.around l.store) (g.S.Bodies.rooms l.store)) (weak_writes_in (g.S.Reads.scene l.fn.store).design (arms_of (map arm_view (drop l.arm-index l.arms)))) (weak_queue_in (g.S.Reads.scene l.fn.store).design (arms_of (map arm_view (drop l.arm-index l.arms)))) (arms_queues (arms_of (map arm_view (drop l.arm-index l.arms))));
    }

-- each call is of a part, or of the same parts by a function further down
abbrev pub decreases-write_stmt : goal.decreases-write_stmt
decreases-write_stmt g l = 4 * size-Stmt l.stmt.now

abbrev pub decreases-write_all : goal.decreases-write_all
decreases-write_all g l = 4 * goal.size-write_all g l + 1

abbrev pub decreases-write_if : goal.decreases-write_if
decreases-write_if g l = 4 * max (size-Stmt l.yes.now) (goal.size-write_if g l) + 3

abbrev pub decreases-write_else : goal.decreases-write_else
decreases-write_else g l = 4 * goal.size-write_else g l + 1

abbrev pub decreases-write_arms : goal.decreases-write_arms
decreases-write_arms g l = 4 * goal.size-write_arms g l + 1
