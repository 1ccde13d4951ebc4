use Rattle.std.proofs.Common.{◌≡◌, ◌+◌, map, drop}
use Rattle.design_model.specs.View.{term_view}
use Rattle.elab_build.specs.Sound.{AreSound}
use Rattle.elab_build.proofs.TermLists.{terms_before}
use Rattle.flat_design.specs.Bodies.{label_terms}
use Rattle.flat_design.specs.Numbering.{all_nodes}
use Rattle.flat_design.specs.Scope.{binding_of}
use Rattle.verilog_tree.specs.Tree.{exprs_of}
use Rattle.verilog_tree.specs.View.{exprs_view}
use Rattle.elab_bodies.proofs.statements.label_terms.Given as goal

-- the labels so far, with those of the rest, are all labels
abbrev pub invariant-loop-label : goal.invariant-loop-label
invariant-loop-label l =
    let g = binding_of l.scope in
    let rest = exprs_of (exprs_view (drop l.label-index l.labels)) in
    let all = exprs_of (exprs_view l.fn.labels) in
    record {
      built : terms_before (map term_view l.all.items) (label_terms l.base g l.shape rest l.nodes) ≡ label_terms l.fn.base (binding_of l.fn.scope) l.fn.shape all l.fn.nodes;
      counted : l.nodes + all_nodes g rest ≡ l.fn.nodes + all_nodes (binding_of l.fn.scope) all;
      sound : AreSound g rest;
    }
