use Rattle.std.proofs.Common.{◌≡◌, ◌+◌, [], sym, drop, ap, ◌∙◌, arith}
use Rattle.std.proofs.lemmas.Grind.{common_steps}
use Rattle.elab_declarations.proofs.OthersLemmas.{others_more}
use Rattle.flat_design.specs.Scope.{binding_of}
use Rattle.elab_declarations.specs.Constants.{with_others}
use Rattle.elab_declarations.proofs.others.add_names.Goals as goal

pub loop-name-preserved : goal.loop-name-preserved
loop-name-preserved c =
    ap (with_others (drop (c.loop-name.name-index + 1) c.args.names.now)) c.in_ok-insert.ensures ∙ others_more c.args.names.now c.loop-name.name-index c.name-item.result (binding_of c.loop-name.scope) (omega arith) c.name-item.is ∙ c.loop-name.invariant

pub returns : goal.returns
returns c =
    let over : drop c.loop-name.name-index c.args.names.now ≡ [] = grind (arith, common_steps) in
    ap (λ ns. with_others ns (binding_of c.loop-name.scope)) (sym over) ∙ c.loop-name.invariant
