use Rattle.std.proofs.Common.{◌≡◌, ◌+◌, ◌*◌, ◌++◌, drop}
use Rattle.verilog_tree.specs.Tree.{exprs_of}
use Rattle.verilog_tree.specs.View.{exprs_view}
use Rattle.verilog_tree.specs.declared.expr.Expr.{size-Expr}
use Rattle.elab_processes.specs.Reads.{all_read_parts, parts_view}
use Rattle.elab_processes.proofs.reads.+add_parts.Given as goal

-- the parts so far, with those of the rest, are those of all
abbrev pub invariant-add_all_parts-loop-expr : goal.invariant-add_all_parts-loop-expr
invariant-add_all_parts-loop-expr l =
    parts_view l.parts.items ++ all_read_parts (exprs_of (exprs_view (drop l.expr-index l.exprs))) ≡ parts_view l.fn.parts.items ++ all_read_parts (exprs_of (exprs_view l.fn.exprs))

-- each call is of a part, or of the same expression by a function further down
abbrev pub decreases-add_parts : goal.decreases-add_parts
decreases-add_parts l = 2 * size-Expr l.expr.now

abbrev pub decreases-add_inner_parts : goal.decreases-add_inner_parts
decreases-add_inner_parts l = 2 * size-Expr l.of.now + 1

abbrev pub decreases-add_all_parts : goal.decreases-add_all_parts
decreases-add_all_parts l = 2 * goal.size-add_all_parts l + 1
