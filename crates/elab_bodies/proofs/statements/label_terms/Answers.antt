use Rattle.std.proofs.Common.{◌≡◌, ◌+◌, ◌∙◌, map, drop, subst, sym, ap, arith}
use Rattle.std.proofs.lemmas.List.{at_drop_all}
use Rattle.design_model.specs.View.{term_view}
use Rattle.flat_design.specs.Bodies.{label_terms}
use Rattle.flat_design.specs.Numbering.{nodes, all_nodes}
use Rattle.flat_design.specs.Scope.{binding_of}
use Rattle.verilog_tree.specs.Tree.{exprs_of, an_expr}
use Rattle.verilog_tree.specs.View.{expr_view, exprs_view}
use Rattle.elab_const.proofs.PartLemmas.{next_part_is}
use Rattle.elab_build.specs.Sound.{AreSound}
use Rattle.elab_build.proofs.TermLists.{terms_before, terms_before_none}
use Rattle.elab_bodies.proofs.FlatLists.{next_labels}
use Rattle.elab_bodies.proofs.statements.label_terms.Goals as goal

pub loop-label-preserved : goal.loop-label-preserved
loop-label-preserved c =
    let g = binding_of c.args.scope.now in
    let i = c.loop-label.label-index in
    let rest = exprs_of (exprs_view (drop i c.args.labels.now)) in
    let later = exprs_of (exprs_view (drop (i + 1) c.args.labels.now)) in
    let e = expr_view c.label-item.result in
    let next : rest ≡ an_expr e later = next_part_is c.args.labels.now i _ c.label-item.result (omega arith) c.label-item.is in
    let sound : AreSound g (an_expr e later) = subst (λ es. AreSound g es) next c.loop-label.invariant.sound in
    let count : all_nodes g rest ≡ nodes g e + all_nodes g later = ap (all_nodes g) next in
    let after : c.term.new.nodes ≡ c.loop-label.nodes + nodes g e = c.in_ok-term.ensures.counted in
    record {
      built = next_labels c.args.base g c.args.shape c.loop-label.all.items c.push.new.self.items c.in_ok-term.field-0 rest later e c.loop-label.nodes c.term.new.nodes _ next c.in_ok-push.ensures.items c.in_ok-term.ensures.built after c.loop-label.invariant.built;
      counted = omega (arith, count, after, c.loop-label.invariant.counted);
      sound = sound.1;
    }

pub returns-clause-built : goal.returns-clause-built
returns-clause-built c =
    let g = binding_of c.args.scope.now in
    let xs = map term_view c.loop-label.all.items in
    let end = at_drop_all (λ ps. terms_before xs (label_terms c.args.base g c.args.shape (exprs_of (exprs_view ps)) c.loop-label.nodes)) c.args.labels.now c.loop-label.label-index (omega arith) in
    sym (terms_before_none xs) ∙ sym end ∙ c.loop-label.invariant.built
