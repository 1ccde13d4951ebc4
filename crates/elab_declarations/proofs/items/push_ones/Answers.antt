use Rattle.std.proofs.Common.{arith, ◌∙◌}
use Rattle.verilog_tree.specs.View.{one_view}
use Rattle.elab_declarations.specs.DeclarationView.{declaration_view}
use Rattle.elab_declarations.specs.ItemKind.{of_kind}
use Rattle.elab_declarations.proofs.ListLemmas.{viewed_more}
use Rattle.elab_declarations.proofs.items.push_ones.Goals as goal

pub loop-one-preserved : goal.loop-one-preserved
loop-one-preserved c =
    let step = viewed_more declaration_view one_view (λ d. of_kind c.args.kind.now d.name) c.loop-one.list.items c.args.ones.now c.loop-one.one-index c.named.result c.one-item.result (omega arith) c.one-item.is c.named.ensures in
    rw c.in_ok-push.ensures.items (step ∙ c.loop-one.invariant)
