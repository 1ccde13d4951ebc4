use Rattle.std.proofs.Common.{◌≡◌, ◌+◌, [], sym, drop, map, ap, ◌∙◌, arith}
use Rattle.std.proofs.lemmas.Grind.{common_steps}
use Rattle.verilog_tree.specs.View.{one_view, ones_view}
use Rattle.elab_declarations.proofs.OthersLemmas.{others_viewed}
use Rattle.flat_design.specs.Scope.{binding_of}
use Rattle.elab_declarations.specs.Constants.{with_others}
use Rattle.elab_declarations.proofs.others.add_ones.Goals as goal

pub loop-one-preserved : goal.loop-one-preserved
loop-one-preserved c =
    ap (with_others (map (λ d. d.name) (ones_view (drop (c.loop-one.one-index + 1) c.args.ones.now)))) c.in_ok-insert.ensures ∙ others_viewed one_view (λ d. d.name) c.args.ones.now c.loop-one.one-index c.one-item.result (binding_of c.loop-one.scope) (omega arith) c.one-item.is ∙ c.loop-one.invariant

pub returns : goal.returns
returns c =
    let over : drop c.loop-one.one-index c.args.ones.now ≡ [] = grind (arith, common_steps) in
    ap (λ ns. with_others (map (λ d. d.name) (ones_view ns)) (binding_of c.loop-one.scope)) (sym over) ∙ c.loop-one.invariant
