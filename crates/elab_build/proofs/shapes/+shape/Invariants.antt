use Rattle.std.proofs.Common.{◌+◌, ◌*◌, max}
use Rattle.verilog_tree.specs.declared.expr.Expr.{size-Expr}
use Rattle.elab_build.proofs.shapes.+shape.Given as goal

-- each call is of a part, or of the parts of the same expression
abbrev pub decreases-shape_of : goal.decreases-shape_of
decreases-shape_of l = 2 * size-Expr l.expr.now

abbrev pub decreases-unary_shape : goal.decreases-unary_shape
decreases-unary_shape l = 2 * size-Expr l.a.now + 1

abbrev pub decreases-binary_shape : goal.decreases-binary_shape
decreases-binary_shape l = 2 * max (size-Expr l.a.now) (size-Expr l.b.now) + 1
