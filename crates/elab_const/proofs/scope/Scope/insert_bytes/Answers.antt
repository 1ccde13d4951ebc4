use Rattle.std.proofs.Common.{refl, sym, ap, subst, ◌∙◌}
use Rattle.std.specs.Prelude.{All}
use Rattle.elab_const.specs.Scope.{IsEntry}
use Rattle.elab_const.proofs.ScopeLemmas.{bound_to, IsBound, fun_ext, inserted_name, inserted_all}
use Rattle.elab_const.proofs.scope.Scope.insert_bytes.Goals as goal

pub invariant_of-self-2 : goal.invariant_of-self-2
invariant_of-self-2 c =
    subst (λ es. All (IsBound IsEntry) es) (sym c.in_ok-insert.ensures.entries) (inserted_all IsEntry c.in_ok-key.key c.args.entry c.self.inside.entries.entries c.requires c.self.invariant)

pub returns-clause-ok : goal.returns-clause-ok
returns-clause-ok c =
    fun_ext (λ x.
    ap (λ es. bound_to es x) c.in_ok-insert.ensures.entries ∙ inserted_name c.in_ok-key.key c.args.entry c.self.inside.entries.entries x ∙ rw (c.in_ok-key.ensures.items, c.self.view_is) refl)
