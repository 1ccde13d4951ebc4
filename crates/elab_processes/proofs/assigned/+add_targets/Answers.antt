use Rattle.std.proofs.Common.{◌+◌, ◌∙◌, ap, drop, map}
use Rattle.std.proofs.lemmas.List.{map-append}
use Rattle.verilog_tree.specs.Tree.{exprs_of}
use Rattle.verilog_tree.specs.View.{expr_view, exprs_view}
use Rattle.flat_design.specs.Identifiers.{base_name}
use Rattle.flat_design.specs.Scope.{binding_of}
use Rattle.flat_design.specs.Targets.{all_leaves, leaves}
use Rattle.elab_checks.proofs.ExpressionLemmas.{next_is}
use Rattle.elab_processes.proofs.SignalLemmas.{listed_next}
use Rattle.elab_processes.proofs.assigned.+add_targets.Goals as goal

pub add_all_targets-loop-target-preserved : goal.add_all_targets-loop-target-preserved
add_all_targets-loop-target-preserved t c =
    let g = binding_of c.args.scope.now in
    let e = c.target-item.result in
    let i = c.loop-target.target-index in
    let rest = exprs_of (exprs_view (drop (i + 1) c.args.targets.now)) in
    let next = ap (λ es. map base_name (all_leaves es)) (next_is c.args.targets.now i e c.loop-target-test.true c.target-item.is) ∙ map-append base_name (leaves (expr_view e)) (all_leaves rest) in
    listed_next g c.loop-target.known c.add_targets.new.known _ (map base_name (leaves (expr_view e))) (map base_name (all_leaves rest)) _ next c.loop-target.invariant c.in_ok-add_targets.ensures
