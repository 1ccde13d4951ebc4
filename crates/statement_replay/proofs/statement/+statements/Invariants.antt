use Rattle.std.proofs.Common.{◌≡◌, ◌+◌, ◌*◌, ◌≤◌, Bool, drop, length, map, max, true, ℕ}
use Rattle.design_model.specs.Design.{Design}
use Rattle.design_model.specs.Shape.{are_bodies}
use Rattle.design_model.specs.View.{arms_of, stmt_view, stmts_of}
use Rattle.design_model.specs.declared.tree.CaseArm.{size-CaseArm}
use Rattle.design_model.specs.declared.tree.Stmt.{size-Stmt}
use Rattle.value_store.specs.body_replay.Replay.{Mode, State, run_default}
use Rattle.value_store.specs.Rooms.{arm_view}
use Rattle.open_tests.specs.body_calls.Rooms.{takes_in}
use Rattle.case_labels.specs.scene_laws.Contexts.{AreArms}
use Rattle.open_tests.specs.Open.{AreSecond}
use Rattle.open_tests.specs.Weights.{default_logs, default_queues}
use Rattle.open_tests.proofs.Cases.{ArmsOn, ArmsSpend}
use Rattle.open_tests.proofs.Looping.{RunsOn, SpendsOn}
use Rattle.statement_replay.proofs.statement.+statements.Given as goal

-- the statements so far, and the rest, are all
abbrev pub invariant-run_all-loop-stmt : goal.invariant-run_all-loop-stmt
invariant-run_all-loop-stmt g l =
    record {
      lawful : are_bodies (g.B.Reads.scene l.fn.store).design (stmts_of (map stmt_view (drop l.stmt-index l.stmts))) ≡ true;
      design : (g.B.Reads.scene l.store).design ≡ (g.B.Reads.scene l.fn.store).design;
      around : g.B.Bodies.around l.store ≡ g.B.Bodies.around l.fn.store;
      under : g.B.Bodies.under l.store ≡ g.B.Bodies.under l.fn.store;
      pieces : l.pieces ≡ l.fn.pieces;
      rooms : SpendsOn (takes_in (g.B.Bodies.around l.fn.store) (g.B.Bodies.rooms l.fn.store)) (g.B.Bodies.rooms l.fn.store).takes (g.B.Bodies.rooms l.fn.store) (stmts_of (map stmt_view l.stmts)) (g.B.Bodies.rooms l.store) (stmts_of (map stmt_view (drop l.stmt-index l.stmts)));
      state : (start : g.N.Notes.Start) → RunsOn l.fn.run.mode l.fn.run.first (g.B.Reads.scene l.fn.store) (g.B.Bodies.queued l.fn.store) (λ ms. g.N.Notes.noted start ms l.fn.notes) (stmts_of (map stmt_view l.stmts)) l.first (g.B.Reads.scene l.store) (g.B.Bodies.queued l.store) (λ ms. g.N.Notes.noted start ms l.notes) (stmts_of (map stmt_view (drop l.stmt-index l.stmts)));
    }

-- the arms so far, in the second branches of those that are open, and the rest are all
abbrev pub invariant-run_arms-loop-arm : goal.invariant-run_arms-loop-arm
invariant-run_arms-loop-arm g l =
    record {
      lawful : (signed : Bool) × AreArms (g.B.Reads.scene l.fn.store).design (length l.on.bits) signed (arms_of (map arm_view (drop l.arm-index l.arms)));
      design : (g.B.Reads.scene l.store).design ≡ (g.B.Reads.scene l.fn.store).design;
      under : g.B.Bodies.under l.store ≡ g.B.Bodies.under l.fn.store;
      pieces : l.pieces ≡ l.fn.pieces;
      few : l.opened ≤ l.arm-index;
      open_tests : AreSecond (g.B.Reads.scene l.fn.store).design l.opened (g.B.Bodies.around l.fn.store) (g.B.Bodies.around l.store);
      rooms : ArmsSpend (g.B.Bodies.rooms l.fn.store) (arms_of (map arm_view l.arms)) (g.B.Bodies.rooms l.store) (arms_of (map arm_view (drop l.arm-index l.arms)));
      state : (start : g.N.Notes.Start) → ArmsOn l.kind l.on l.fn.run.mode l.fn.run.first (g.B.Reads.scene l.fn.store) (g.B.Bodies.queued l.fn.store) (λ ms. g.N.Notes.noted start ms l.fn.notes) (g.B.Bodies.around l.fn.store) (arms_of (map arm_view l.arms)) l.now.mode l.now.first (g.B.Reads.scene l.store) (g.B.Bodies.queued l.store) (λ ms. g.N.Notes.noted start ms l.notes) (g.B.Bodies.around l.store) l.opened (arms_of (map arm_view (drop l.arm-index l.arms)));
    }

-- the default is one of the rest
abbrev pub invariant-run_default-loop-arm : goal.invariant-run_default-loop-arm
invariant-run_default-loop-arm g l =
    record {
      store : l.store ≡ l.fn.store;
      notes : l.notes ≡ l.fn.notes;
      pieces : l.pieces ≡ l.fn.pieces;
      lawful : (w : ℕ) × (signed : Bool) × AreArms (g.B.Reads.scene l.fn.store).design w signed (arms_of (map arm_view (drop l.arm-index l.arms)));
      logs : (f : ℕ → ℕ) → default_logs f (arms_of (map arm_view l.arms)) ≡ default_logs f (arms_of (map arm_view (drop l.arm-index l.arms)));
      queues : default_queues (arms_of (map arm_view l.arms)) ≡ default_queues (arms_of (map arm_view (drop l.arm-index l.arms)));
      state : (d : Design) (mode : Mode) (a : State) → run_default d (arms_of (map arm_view l.arms)) mode a ≡ run_default d (arms_of (map arm_view (drop l.arm-index l.arms))) mode a;
    }

-- each call is of a part, or of the same parts by a function further down
abbrev pub decreases-run_statement : goal.decreases-run_statement
decreases-run_statement g l = 4 * size-Stmt l.stmt.now

abbrev pub decreases-run_all : goal.decreases-run_all
decreases-run_all g l = 4 * goal.size-run_all g l + 1

abbrev pub decreases-run_else : goal.decreases-run_else
decreases-run_else g l = 4 * goal.size-run_else g l + 1

abbrev pub decreases-run_if : goal.decreases-run_if
decreases-run_if g l = 4 * max (size-Stmt l.yes.now) (goal.size-run_if g l) + 3

abbrev pub decreases-run_both : goal.decreases-run_both
decreases-run_both g l = 4 * max (size-Stmt l.yes.now) (goal.size-run_both g l) + 2

abbrev pub decreases-run_case : goal.decreases-run_case
decreases-run_case g l = 4 * goal.size-run_case g l + 3

abbrev pub decreases-run_arms : goal.decreases-run_arms
decreases-run_arms g l = 4 * goal.size-run_arms g l + 2

abbrev pub decreases-run_arm : goal.decreases-run_arm
decreases-run_arm g l = 4 * size-CaseArm l.arm.now + 1

abbrev pub decreases-run_default : goal.decreases-run_default
decreases-run_default g l = 4 * goal.size-run_default g l + 1
