use Rattle.std.proofs.Common.{◌≡◌, drop}
use Rattle.std.specs.Prelude.{IfOk}
use Rattle.verilog_tree.specs.Tree.{arms_of}
use Rattle.verilog_tree.specs.View.{expr_view, arms_view}
use Rattle.elab_const.specs.Scope.{look_up}
use Rattle.elab_const.specs.Meaning.{IsShape}
use Rattle.elab_const.specs.Cases as cases
use Rattle.elab_const.proofs.cases.case_shape.Given as goal

-- the shape so far, with the arms that are left, is that of all
abbrev pub invariant-loop-arm : goal.invariant-loop-arm
invariant-loop-arm l =
    record {
      whole : cases.with_arms (look_up l.names) l.shape (arms_of (arms_view (drop l.arm-index l.arms))) ≡ cases.case_answer (look_up l.fn.scope) (expr_view l.fn.on) (arms_of (arms_view l.fn.arms));
      within : IfOk l.shape IsShape;
    }
