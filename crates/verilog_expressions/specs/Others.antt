-- Lists of expressions of which the first was read before the others.
use Rattle.std.specs.Prelude.{List, drop}
use Rattle.verilog_tree.specs.Tree.{Expr}
use Rattle.verilog_tree.specs.View.{exprs_view}
use Rattle.verilog_expressions.specs.declared.measured.MeasuredList.{MeasuredList}

-- the expressions after the first
unfoldable pub others_view : MeasuredList → List Expr
others_view l = drop 1 (exprs_view l.exprs.items)
