use Rattle.std.proofs.Common.{◌∷◌, not, ap, ◌∙◌}
use Rattle.elab_const.proofs.ScopeLemmas.{fun_ext}
use Rattle.elab_scope.specs.NameSet.{has}
use Rattle.elab_scope.proofs.NameSetLemmas.{has_found, has_inserted, names_in}
use Rattle.elab_scope.proofs.name_set.NameSet.add.Goals as goal

pub returns-clause-added : goal.returns-clause-added
returns-clause-added c = c.in_ok-insert.ensures.added ∙ ap not (has_found c.args.name.now c.self.inside.names.keys ∙ ap (λ names. has names c.args.name.now) c.self.view_is)

pub returns-clause-names : goal.returns-clause-names
returns-clause-names c =
    ap (λ ks. has (names_in ks)) c.in_ok-insert.ensures.keys ∙ fun_ext (has_inserted c.args.name c.self.inside.names.keys) ∙ ap (λ names. has (c.args.name.now ∷ names)) c.self.view_is
