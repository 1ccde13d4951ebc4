use Rattle.std.proofs.Common.{◌≡◌, ◌++◌, ◌+◌, [], append-nil, ap, drop, sym, ◌∙◌, arith}
use Rattle.std.specs.Prelude.{flat_map}
use Rattle.std.proofs.lemmas.Grind.{common_steps}
use Rattle.flat_design.specs.Instances.{constant_of}
use Rattle.elab_declarations.specs.Constants.{bindings_view, bound_view}
use Rattle.elab_declarations.proofs.ListLemmas.{joined_more}
use Rattle.elab_instances.proofs.parts.push_constants.Goals as goal

pub loop-parameter-preserved : goal.loop-parameter-preserved
loop-parameter-preserved c =
    let xs = c.deref-parameter-items.result.now in
    let i = c.loop-parameter.parameter-index in
    ap (λ ys. ys ++ flat_map (constant_of c.args.number) (bindings_view (drop (i + 1) xs))) c.in_ok-push_constant.ensures ∙ joined_more bound_view (constant_of c.args.number) c.loop-parameter.constants xs i c.parameter-item.result (omega arith) c.parameter-item.is ∙ c.loop-parameter.invariant

pub returns : goal.returns
returns c =
    let over : drop c.loop-parameter.parameter-index c.deref-parameter-items.result.now ≡ [] = grind (arith, common_steps) in
    sym (append-nil c.loop-parameter.constants) ∙ ap (λ ps. c.loop-parameter.constants ++ flat_map (constant_of c.args.number) (bindings_view ps)) (sym over) ∙ c.loop-parameter.invariant ∙ ap (λ bs. c.args.constants.now ++ flat_map (constant_of c.args.number) bs) c.args.opened.now.parameters
