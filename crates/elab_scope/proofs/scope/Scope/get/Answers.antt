use Rattle.std.proofs.Common.{◌∙◌}
use Rattle.std.proofs.lemmas.Map.Entries.{All-lookup}
use Rattle.elab_const.proofs.ScopeLemmas.{is_named, found_name, copied_some}
use Rattle.elab_scope.specs.Entries.{IsEntry}
use Rattle.elab_scope.proofs.scope.Scope.get.Goals as goal

pub returns-clause-value : goal.returns-clause-value
returns-clause-value c = c.get.ensures.value ∙ rw (← c.self.view_is) (found_name c.args.name.now c.self.inside.entries.entries)

pub returns-clause-within : goal.returns-clause-within
returns-clause-within c =
    copied_some IsEntry c.get.result (rw c.get.ensures.value (All-lookup IsEntry (is_named c.args.name.now) c.self.inside.entries.entries c.self.invariant.0))
