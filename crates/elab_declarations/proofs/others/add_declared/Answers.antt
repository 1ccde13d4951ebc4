use Rattle.std.proofs.Common.{◌≡◌, ◌+◌, [], sym, drop, map, ap, ◌∙◌, arith}
use Rattle.std.proofs.lemmas.Grind.{common_steps}
use Rattle.verilog_tree.specs.View.{declared_view, declareds_view}
use Rattle.elab_declarations.proofs.OthersLemmas.{others_viewed}
use Rattle.flat_design.specs.Scope.{binding_of}
use Rattle.elab_declarations.specs.Constants.{with_others}
use Rattle.elab_declarations.proofs.others.add_declared.Goals as goal

pub loop-declared-preserved : goal.loop-declared-preserved
loop-declared-preserved c =
    ap (with_others (map (λ d. d.name) (declareds_view (drop (c.loop-declared.declared-index + 1) c.args.names.now)))) c.in_ok-insert.ensures ∙ others_viewed declared_view (λ d. d.name) c.args.names.now c.loop-declared.declared-index c.declared-item.result (binding_of c.loop-declared.scope) (omega arith) c.declared-item.is ∙ c.loop-declared.invariant

pub returns : goal.returns
returns c =
    let over : drop c.loop-declared.declared-index c.args.names.now ≡ [] = grind (arith, common_steps) in
    ap (λ ns. with_others (map (λ d. d.name) (declareds_view ns)) (binding_of c.loop-declared.scope)) (sym over) ∙ c.loop-declared.invariant
