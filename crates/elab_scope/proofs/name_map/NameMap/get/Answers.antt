use Rattle.std.proofs.Common.{◌∙◌}
use Rattle.elab_const.proofs.ScopeLemmas.{found_name}
use Rattle.elab_scope.proofs.name_map.NameMap.get.Goals as goal

pub returns : goal.returns
returns g c = c.get.ensures.value ∙ rw (← c.self.view_is) (found_name c.args.name.now c.self.inside.entries.entries)
