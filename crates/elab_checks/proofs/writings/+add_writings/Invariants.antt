use Rattle.std.proofs.Common.{◌≡◌, ◌++◌, drop, map}
use Rattle.std.specs.Prelude.{All}
use Rattle.verilog_tree.specs.Tree.{exprs_of}
use Rattle.verilog_tree.specs.View.{expr_view, exprs_view}
use Rattle.flat_design.specs.Scope.{binding_of}
use Rattle.flat_design.specs.Targets.{all_leaves, leaves, writing_of}
use Rattle.elab_scope.specs.View.{IsWithin, writing_view}
use Rattle.elab_checks.specs.Writings.{EachTarget}
use Rattle.elab_checks.proofs.writings.+add_writings.Given as goal

-- what is written so far, with what the rest writes, is what all write
abbrev pub invariant-loop-part : goal.invariant-loop-part
invariant-loop-part l =
    let g = binding_of l.fn.scope in
    let rest = exprs_of (exprs_view (drop l.part-index l.part-items)) in
    let f = writing_of g l.fn.writer.blocking l.fn.writer.continuous l.fn.writer.process in
    record {
      written : map writing_view l.all.items ++ map f (all_leaves rest) ≡ map writing_view l.fn.all.items ++ map f (leaves (expr_view l.fn.expr));
      within : All IsWithin l.all.items;
      targets : EachTarget g rest;
    }
