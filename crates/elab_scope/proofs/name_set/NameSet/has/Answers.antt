use Rattle.std.proofs.Common.{ap, ◌∙◌}
use Rattle.elab_scope.specs.NameSet.{has}
use Rattle.elab_scope.proofs.NameSetLemmas.{has_found}
use Rattle.elab_scope.proofs.name_set.NameSet.has.Goals as goal

pub returns : goal.returns
returns c = c.contains.ensures ∙ has_found c.args.name.now c.self.inside.names.keys ∙ ap (λ names. has names c.args.name.now) c.self.view_is
