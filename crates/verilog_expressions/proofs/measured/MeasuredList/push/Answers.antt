use Rattle.std.proofs.Common.{sym, ap, ◌∙◌, arith}
use Rattle.verilog_tree.specs.View.{expr_view}
use Rattle.verilog_tree.specs.Depth.{depth}
use Rattle.verilog_expressions.proofs.Deepest.{deepest_pushed}
use Rattle.verilog_expressions.proofs.measured.MeasuredList.push.Goals as goal

pub invariant_of-self-2 : goal.invariant_of-self-2
invariant_of-self-2 c =
    let old = c.args.self.now in
    let d = c.part_depth-depth.ensures.depth ∙ ap (λ x. depth (expr_view x)) (sym c.into_expr.ensures) in
    record { measured = deepest_pushed old.start old.deepest c.part_depth-depth.result c.deeper-self.result old.exprs.items c.push.new.self.items c.into_expr.result old.measured d c.in_ok-push.ensures.items c.deeper-self.ensures.deeper; low = omega (arith, old.low, c.part_depth-depth.ensures.low, c.deeper-self.ensures.height) }
