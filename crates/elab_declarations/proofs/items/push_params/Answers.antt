use Rattle.std.proofs.Common.{arith, ◌∙◌}
use Rattle.verilog_tree.specs.View.{param_view}
use Rattle.elab_declarations.specs.DeclarationView.{declaration_view}
use Rattle.elab_declarations.specs.ItemKind.{of_kind}
use Rattle.elab_declarations.proofs.ListLemmas.{viewed_more}
use Rattle.elab_declarations.proofs.items.push_params.Goals as goal

pub loop-param-preserved : goal.loop-param-preserved
loop-param-preserved c =
    let step = viewed_more declaration_view param_view (λ d. of_kind c.args.kind.now d.name) c.loop-param.list.items c.args.params.now c.loop-param.param-index c.named.result c.param-item.result (omega arith) c.param-item.is c.named.ensures in
    rw c.in_ok-push.ensures.items (step ∙ c.loop-param.invariant)
