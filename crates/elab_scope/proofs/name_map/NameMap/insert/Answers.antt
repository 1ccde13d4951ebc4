use Rattle.std.proofs.Common.{refl, ap, ◌∙◌}
use Rattle.elab_const.proofs.ScopeLemmas.{bound_to, fun_ext, inserted_name}
use Rattle.elab_scope.proofs.name_map.NameMap.insert.Goals as goal

pub returns : goal.returns
returns g c =
    fun_ext (λ x.
    ap (λ es. bound_to es x) c.in_ok-insert.ensures.entries ∙ inserted_name c.in_ok-key.key _ c.self.inside.entries.entries x ∙ rw (c.in_ok-key.ensures.items, c.self.view_is) refl)
