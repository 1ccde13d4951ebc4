use Rattle.std.proofs.Common.{◌≡◌, ◌+◌, [], sym, drop, map, ap, ◌∙◌, arith}
use Rattle.std.proofs.lemmas.Grind.{common_steps}
use Rattle.verilog_tree.specs.View.{param_view, params_view}
use Rattle.elab_declarations.proofs.OthersLemmas.{others_viewed}
use Rattle.flat_design.specs.Scope.{binding_of}
use Rattle.elab_declarations.specs.Constants.{with_others}
use Rattle.elab_declarations.proofs.others.add_params.Goals as goal

pub loop-param-preserved : goal.loop-param-preserved
loop-param-preserved c =
    ap (with_others (map (λ d. d.name) (params_view (drop (c.loop-param.param-index + 1) c.args.params.now)))) c.in_ok-insert.ensures ∙ others_viewed param_view (λ d. d.name) c.args.params.now c.loop-param.param-index c.param-item.result (binding_of c.loop-param.scope) (omega arith) c.param-item.is ∙ c.loop-param.invariant

pub returns : goal.returns
returns c =
    let over : drop c.loop-param.param-index c.args.params.now ≡ [] = grind (arith, common_steps) in
    ap (λ ns. with_others (map (λ d. d.name) (params_view ns)) (binding_of c.loop-param.scope)) (sym over) ∙ c.loop-param.invariant
