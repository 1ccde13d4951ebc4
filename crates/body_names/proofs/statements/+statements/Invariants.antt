use Rattle.std.proofs.Common.{◌+◌, ◌*◌, drop, map}
use Rattle.design_model.specs.View.{arms_of, stmt_view, stmts_of}
use Rattle.design_model.specs.declared.tree.Stmt.{size-Stmt}
use Rattle.process_names.specs.Names.{all_body_names, arm_names, arm_view, default_names}
use Rattle.body_names.proofs.Taking.{TakesOn}
use Rattle.body_names.proofs.statements.+statements.Given as goal

-- the names so far, and those of the rest, are those of all statements
abbrev pub invariant-name_stmts-loop-stmt : goal.invariant-name_stmts-loop-stmt
invariant-name_stmts-loop-stmt g l =
    g.N.Names.ready l.names × TakesOn g.N.Names.named l.fn.names (all_body_names (stmts_of (map stmt_view l.fn.stmts))) l.names (all_body_names (stmts_of (map stmt_view (drop l.stmt-index l.stmts))))

-- or of all arms
abbrev pub invariant-name_arms-loop-arm : goal.invariant-name_arms-loop-arm
invariant-name_arms-loop-arm g l =
    g.N.Names.ready l.names × TakesOn g.N.Names.named l.fn.names (arm_names (arms_of (map arm_view l.fn.arms))) l.names (arm_names (arms_of (map arm_view (drop l.arm-index l.arms))))

-- or of all arms without labels
abbrev pub invariant-name_default-loop-arm : goal.invariant-name_default-loop-arm
invariant-name_default-loop-arm g l =
    g.N.Names.ready l.names × TakesOn g.N.Names.named l.fn.names (default_names (arms_of (map arm_view l.fn.arms))) l.names (default_names (arms_of (map arm_view (drop l.arm-index l.arms))))

-- each call is of a part
abbrev pub decreases-name_stmt : goal.decreases-name_stmt
decreases-name_stmt g l = 2 * size-Stmt l.stmt.now

abbrev pub decreases-name_stmts : goal.decreases-name_stmts
decreases-name_stmts g l = 2 * goal.size-name_stmts g l + 1

abbrev pub decreases-name_arms : goal.decreases-name_arms
decreases-name_arms g l = 2 * goal.size-name_arms g l + 1

abbrev pub decreases-name_default : goal.decreases-name_default
decreases-name_default g l = 2 * goal.size-name_default g l + 1
