use Rattle.std.proofs.Common.{◌≡◌, drop}
use Rattle.std.specs.Prelude.{flat_map}
use Rattle.flat_design.specs.Identifiers.{option_identifiers}
use Rattle.verilog_tree.specs.View.{givens_view}
use Rattle.elab_scope.specs.NameSet.{has}
use Rattle.elab_instances.specs.Names.{with_names}
use Rattle.elab_instances.proofs.identifiers.add_given.Given as goal

-- the set with the names of the rest has those of all
abbrev pub invariant-loop-connection : goal.invariant-loop-connection
invariant-loop-connection l = with_names (flat_map (λ g. option_identifiers g.value) (givens_view (drop l.connection-index l.given))) (has l.names) ≡ with_names (flat_map (λ g. option_identifiers g.value) (givens_view l.fn.given)) (has l.fn.names)
