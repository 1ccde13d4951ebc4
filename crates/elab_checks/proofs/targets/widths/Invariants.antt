use Rattle.std.proofs.Common.{◌≡◌, ◌≤◌, ◌+◌, ◌*◌, drop}
use Rattle.verilog_tree.specs.Tree.{exprs_of}
use Rattle.verilog_tree.specs.View.{exprs_view}
use Rattle.elab_const.specs.Meaning.{parts_of}
use Rattle.flat_design.specs.Scope.{binding_of, names}
use Rattle.flat_design.specs.Targets.{have_shapes}
use Rattle.elab_checks.proofs.targets.widths.Given as goal

-- the sum so far, with the widths of the rest, is that of all, and it is known where those of the rest are
abbrev pub invariant-loop-part : goal.invariant-loop-part
invariant-loop-part l =
    record {
      whole : l.sum + (parts_of (names (binding_of l.scope)) (exprs_of (exprs_view (drop l.part-index l.parts)))).width ≡ (parts_of (names (binding_of l.fn.scope)) (exprs_of (exprs_view l.fn.parts))).width;
      known : have_shapes (binding_of l.scope) (exprs_of (exprs_view (drop l.part-index l.parts))) ≡ have_shapes (binding_of l.fn.scope) (exprs_of (exprs_view l.fn.parts));
      small : l.sum ≤ 128 * l.part-index;
    }
