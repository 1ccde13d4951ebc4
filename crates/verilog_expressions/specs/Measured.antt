-- Expressions with the depth of what stood before them.
use Rattle.std.specs.Prelude.{◌<◌, ◌^◌, Bool, true, false, List}
use Rattle.verilog_tree.specs.View.{expr_view, exprs_view}
use Rattle.verilog_tree.specs.Tree.{Expr, bit_select}
use Rattle.verilog_tree.specs.Depth.{depth}
use Rattle.verilog_tree.specs.declared.depth.Depth.{Depth}
use Rattle.verilog_expressions.specs.declared.measured.Measured.{Measured}
use Rattle.verilog_expressions.specs.declared.measured.MeasuredList.{MeasuredList}

-- expressions, and the depth of what stood before them
pub record MeasuredExprs : Type 0 where
  pub exprs : List Expr
  pub start : Depth

-- the expression without its depth
abbrev pub measured_view : Measured → Expr
measured_view m = expr_view m.expr

-- the expressions, and the depth of what stood before them
abbrev pub list_view : MeasuredList → MeasuredExprs
list_view l = record { exprs = exprs_view l.exprs.items; start = l.start }

-- how deep it nests has 32 bits, so that it may become a part of a greater expression
abbrev pub IsLow : Expr → Type 0
IsLow e = (depth e).height < 2 ^ 32

-- whether it is a select of one bit
abbrev pub is_bit_select : Expr → Bool
is_bit_select (bit_select p x i) = true
is_bit_select _ = false
