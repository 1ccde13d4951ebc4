use Rattle.std.proofs.Common.{refl, sym, subst, ◌∙◌}
use Rattle.std.specs.Prelude.{All}
use Rattle.elab_const.specs.Scope.{IsEntry}
use Rattle.elab_const.proofs.ScopeLemmas.{IsBound, is_named, fun_ext, removed_name, removed_all}
use Rattle.elab_const.proofs.scope.Scope.remove.Goals as goal

pub invariant_of-self : goal.invariant_of-self
invariant_of-self c =
    subst (λ es. All (IsBound IsEntry) es) (sym c.swap_remove.ensures.entries) (removed_all IsEntry (is_named c.as_slice.result.now) c.self.inside.entries.entries c.self.invariant)

pub returns : goal.returns
returns c =
    let updates = c.swap_remove.ensures.updates in
    fun_ext (λ name.
    removed_name c.as_slice.result.now c.self.inside.entries.entries c.swap_remove.new.self.entries updates.1 updates.3 name
    ∙ rw (c.as_slice.ensures, c.self.view_is) refl)
