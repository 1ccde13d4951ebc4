use Rattle.std.proofs.Common.{◌≡◌, drop, map}
use Rattle.elab_scope.specs.NameSet.{has}
use Rattle.elab_instances.specs.Names.{with_names}
use Rattle.elab_instances.proofs.identifiers.add_edges.Given as goal

-- the set with the names of the rest has those of all
abbrev pub invariant-loop-name : goal.invariant-loop-name
invariant-loop-name l = with_names (map (λ e. e.1) (drop l.name-index l.edges)) (has l.names) ≡ with_names (map (λ e. e.1) l.fn.edges) (has l.fn.names)
