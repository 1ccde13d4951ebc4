use Rattle.std.proofs.Common.{rules}
use Rattle.std.specs.Ordering.{is_lt}
use Rattle.std.proofs.lemmas.List.Sorted.{answers_always, ranks_by}
use Rattle.elab_scope.specs.declared.tally.Written.{Written}
use Rattle.elab_conflicts.specs.Conflicts.{name_order}
use Rattle.elab_scope.specs.View.{name_view}
use Rattle.elab_conflicts.proofs.ConflictsOrder.{name_order-total}
use Rattle.elab_conflicts.proofs.conflicts.in_text_order.Goals as goal

pub returns-clause-rising : goal.returns-clause-rising
returns-clause-rising c =
    let ranks = ranks_by name_order-total (λ (w : Written). name_view w.name) in
    c.sort_unstable_by.ensures.sorted (λ x y. is_lt (name_order (name_view x.name) (name_view y.name))) ranks (answers_always _ _ _ (λ f a r g h. search rules))
