use Rattle.std.proofs.Common.{refl, ap, sym, subst, ◌∙◌}
use Rattle.std.specs.Prelude.{All}
use Rattle.elab_const.specs.Scope as constants
use Rattle.elab_const.proofs.ScopeLemmas.{IsBound, bound_to, is_named, fun_ext, removed_name, removed_all}
use Rattle.elab_scope.specs.Entries.{IsEntry}
use Rattle.elab_scope.proofs.ScopeLemmas.{values_without}
use Rattle.elab_scope.proofs.scope.Scope.remove.Goals as goal

pub invariant_of-self : goal.invariant_of-self
invariant_of-self c =
    let x = c.as_slice.result.now in
    let es = c.self.inside.entries.entries in
    let updates = c.swap_remove.ensures.updates in
    let removed = c.remove.ensures ∙ ap (λ n. constants.without_entry n (constants.look_up c.self.inside.values)) (sym c.as_slice.ensures) in (
      subst (λ es. All (IsBound IsEntry) es) (sym c.swap_remove.ensures.entries) (removed_all IsEntry (is_named x) es c.self.invariant.0),
      values_without x (bound_to es) (bound_to c.swap_remove.new.self.entries) (constants.look_up c.self.inside.values) _ (removed_name x es c.swap_remove.new.self.entries updates.1 updates.3) c.self.invariant.1 removed,
    )

pub returns : goal.returns
returns c =
    let updates = c.swap_remove.ensures.updates in
    fun_ext (λ name.
    removed_name c.as_slice.result.now c.self.inside.entries.entries c.swap_remove.new.self.entries updates.1 updates.3 name
    ∙ rw (c.as_slice.ensures, c.self.view_is) refl)
