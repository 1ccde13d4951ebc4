use Rattle.std.proofs.Common.{◌≡◌, ◌+◌, ◌*◌, map, drop}
use Rattle.design_model.specs.View.{target_view}
use Rattle.elab_build.specs.SoundTargets.{EachSoundTarget}
use Rattle.elab_build.proofs.TargetLists.{targets_before}
use Rattle.flat_design.specs.Numbering.{all_nodes}
use Rattle.flat_design.specs.Scope.{binding_of}
use Rattle.flat_design.specs.Targets.{targets}
use Rattle.verilog_tree.specs.Tree.{exprs_of}
use Rattle.verilog_tree.specs.View.{exprs_view}
use Rattle.verilog_tree.specs.declared.expr.Expr.{size-Expr}
use Rattle.elab_build.proofs.targets.+target.Given as goal

-- the targets so far, with those of the rest, are those of all parts
abbrev pub invariant-targets-loop-part : goal.invariant-targets-loop-part
invariant-targets-loop-part l =
    let g = binding_of l.scope in
    let rest = exprs_of (exprs_view (drop l.part-index l.parts)) in
    let all = exprs_of (exprs_view l.fn.parts) in
    record {
      built : targets_before (map target_view l.all.items) (targets l.base g rest l.nodes) ≡ targets l.fn.base (binding_of l.fn.scope) all l.fn.nodes;
      counted : l.nodes + all_nodes g rest ≡ l.fn.nodes + all_nodes (binding_of l.fn.scope) all;
      sound : EachSoundTarget g rest;
    }

-- each call is of a part
abbrev pub decreases-target : goal.decreases-target
decreases-target l = 4 * size-Expr l.expr.now

abbrev pub decreases-targets : goal.decreases-targets
decreases-targets l = 4 * goal.size-targets l + 1

abbrev pub decreases-concat_target : goal.decreases-concat_target
decreases-concat_target l = 4 * goal.size-concat_target l + 2
