use Rattle.std.proofs.Common.{◌+◌, ◌*◌, drop, map}
use Rattle.design_model.specs.View.{arms_of, design_view, stmt_view, stmts_of}
use Rattle.design_model.specs.declared.tree.Stmt.{size-Stmt}
use Rattle.value_store.specs.body_replay.Contract.{all_spots, arms_spots}
use Rattle.value_store.specs.Rooms.{arm_view}
use Rattle.body_spots.proofs.Hits.{HitsOn}
use Rattle.body_spots.proofs.statements.+statements.Given as goal

-- the spots so far, and those of the rest, are those of all statements
abbrev pub invariant-note_all-loop-stmt : goal.invariant-note_all-loop-stmt
invariant-note_all-loop-stmt g l =
    HitsOn g.N.Notes.noted l.fn.notes (all_spots (design_view l.design) (stmts_of (map stmt_view l.fn.stmts))) l.notes (all_spots (design_view l.design) (stmts_of (map stmt_view (drop l.stmt-index l.stmts))))

-- or of all arms
abbrev pub invariant-note_arms-loop-arm : goal.invariant-note_arms-loop-arm
invariant-note_arms-loop-arm g l =
    HitsOn g.N.Notes.noted l.fn.notes (arms_spots (design_view l.design) (arms_of (map arm_view l.fn.arms))) l.notes (arms_spots (design_view l.design) (arms_of (map arm_view (drop l.arm-index l.arms))))

-- each call is of a part
abbrev pub decreases-note_stmt : goal.decreases-note_stmt
decreases-note_stmt g l = 2 * size-Stmt l.stmt.now

abbrev pub decreases-note_all : goal.decreases-note_all
decreases-note_all g l = 2 * goal.size-note_all g l + 1

abbrev pub decreases-note_arms : goal.decreases-note_arms
decreases-note_arms g l = 2 * goal.size-note_arms g l + 1
