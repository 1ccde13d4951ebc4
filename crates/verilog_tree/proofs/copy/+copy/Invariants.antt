use Rattle.std.proofs.Common.{◌≡◌, map, take}
use Rattle.verilog_tree.specs.View.{expr_view}
use Rattle.verilog_tree.proofs.copy.+copy.Given as goal

abbrev pub invariant-all_copied-loop-expr : goal.invariant-all_copied-loop-expr
invariant-all_copied-loop-expr l = map expr_view l.all.items ≡ map expr_view (take l.expr-index l.exprs)
