use Rattle.std.proofs.Common.{◌≡◌, drop}
use Rattle.std.specs.Prelude.{IfOk}
use Rattle.verilog_tree.specs.Tree.{exprs_of}
use Rattle.verilog_tree.specs.View.{exprs_view}
use Rattle.elab_const.specs.Scope.{look_up}
use Rattle.elab_const.specs.Meaning.{IsShape}
use Rattle.elab_const.specs.Cases as cases
use Rattle.elab_const.proofs.cases.with_labels.Given as goal

-- the shape so far, with the labels that are left, is that of all
abbrev pub invariant-loop-label : goal.invariant-loop-label
invariant-loop-label l =
    record {
      whole : cases.with_labels (look_up l.names) l.shape (exprs_of (exprs_view (drop l.label-index l.labels))) ≡ cases.with_labels (look_up l.fn.names) l.fn.shape (exprs_of (exprs_view l.fn.labels));
      within : IfOk l.shape IsShape;
    }
