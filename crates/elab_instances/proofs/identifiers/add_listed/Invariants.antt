use Rattle.std.proofs.Common.{◌≡◌, drop}
use Rattle.elab_scope.specs.NameSet.{has}
use Rattle.elab_instances.specs.Names.{with_names}
use Rattle.elab_instances.proofs.identifiers.add_listed.Given as goal

-- the set with the names of the rest has those of all
abbrev pub invariant-loop-name : goal.invariant-loop-name
invariant-loop-name l = with_names ((drop l.name-index l.listed)) (has l.names) ≡ with_names (l.fn.listed) (has l.fn.names)
