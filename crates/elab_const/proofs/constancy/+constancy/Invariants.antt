use Rattle.std.proofs.Common.{◌≡◌, drop}
use Rattle.verilog_tree.specs.Tree.{exprs_of}
use Rattle.verilog_tree.specs.View.{exprs_view}
use Rattle.elab_const.specs.Scope.{look_up}
use Rattle.elab_const.specs.Faults.{are_constant}
use Rattle.elab_const.proofs.constancy.+constancy.Given as goal

-- whether the rest is constant decides
abbrev pub invariant-are_constant-loop-part : goal.invariant-are_constant-loop-part
invariant-are_constant-loop-part l = are_constant (look_up l.names) (exprs_of (exprs_view (drop l.part-index l.parts))) ≡ are_constant (look_up l.fn.names) (exprs_of (exprs_view l.fn.parts))
