use Rattle.std.proofs.Common.{arith, ◌∙◌}
use Rattle.elab_declarations.specs.DeclarationView.{declaration_view}
use Rattle.elab_declarations.specs.ItemKind.{of_kind}
use Rattle.elab_declarations.proofs.ListLemmas.{pushed_more}
use Rattle.elab_declarations.proofs.items.push_named.Goals as goal

pub loop-name-preserved : goal.loop-name-preserved
loop-name-preserved c =
    let step = pushed_more declaration_view (of_kind c.args.kind.now) c.loop-name.list.items c.args.names.now c.loop-name.name-index c.named.result c.name-item.result (omega arith) c.name-item.is c.named.ensures in
    rw c.in_ok-push.ensures.items (step ∙ c.loop-name.invariant)
