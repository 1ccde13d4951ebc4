use Rattle.std.proofs.Common.{◌∙◌, sym, subst, ap}
use Rattle.std.specs.Prelude.{All}
use Rattle.std.proofs.lemmas.List.Elements.{All-nil}
use Rattle.elab_const.proofs.ScopeLemmas.{IsBound, bound_to}
use Rattle.flat_design.specs.Scope.{names}
use Rattle.elab_scope.specs.Entries.{IsEntry}
use Rattle.elab_scope.proofs.scope.Scope.new.Goals as goal

pub invariant_of-result : goal.invariant_of-result
invariant_of-result c = (
  subst (All (IsBound IsEntry)) (sym c.new.ensures.empty) (All-nil (IsBound IsEntry)),
  c.new-2.ensures ∙ ap (λ es. names (bound_to es)) (sym c.new.ensures.empty),
)
