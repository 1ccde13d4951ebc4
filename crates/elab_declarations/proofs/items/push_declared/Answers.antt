use Rattle.std.proofs.Common.{arith, ◌∙◌}
use Rattle.verilog_tree.specs.View.{declared_view}
use Rattle.elab_declarations.specs.DeclarationView.{declaration_view}
use Rattle.elab_declarations.specs.ItemKind.{of_kind}
use Rattle.elab_declarations.proofs.ListLemmas.{viewed_more}
use Rattle.elab_declarations.proofs.items.push_declared.Goals as goal

pub loop-declared-preserved : goal.loop-declared-preserved
loop-declared-preserved c =
    let step = viewed_more declaration_view declared_view (λ d. of_kind c.args.kind.now d.name) c.loop-declared.list.items c.args.names.now c.loop-declared.declared-index c.named.result c.declared-item.result (omega arith) c.declared-item.is c.named.ensures in
    rw c.in_ok-push.ensures.items (step ∙ c.loop-declared.invariant)
