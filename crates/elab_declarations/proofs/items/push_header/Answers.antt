use Rattle.std.proofs.Common.{◌≡◌, None, false, ap, arith, ◌∙◌}
use Rattle.verilog_tree.specs.View.{param_view}
use Rattle.flat_design.specs.Declarations.{a_parameter, declaration}
use Rattle.elab_declarations.specs.DeclarationView.{declaration_view}
use Rattle.elab_declarations.specs.ItemKind.{of_kind}
use Rattle.elab_declarations.proofs.ListLemmas.{viewed_more}
use Rattle.elab_declarations.proofs.items.push_header.Goals as goal

pub loop-param-preserved : goal.loop-param-preserved
loop-param-preserved c =
    let x = c.param-item.result in
    let same : declaration_view c.named.result ≡ declaration x.name.place a_parameter None false None x.name = c.named.ensures ∙ ap (λ k. of_kind k x.name) c.plain.ensures in
    let step = viewed_more declaration_view param_view (λ p. declaration p.name.place a_parameter None false None p.name) c.loop-param.list.items c.args.params.now c.loop-param.param-index c.named.result x (omega arith) c.param-item.is same in
    rw c.in_ok-push.ensures.items (step ∙ c.loop-param.invariant)
