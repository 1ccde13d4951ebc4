use Rattle.std.proofs.Common.{◌≡◌, drop}
use Rattle.std.specs.Prelude.{flat_map}
use Rattle.flat_design.specs.Identifiers.{given_identifiers}
use Rattle.verilog_tree.specs.View.{ones_view}
use Rattle.elab_scope.specs.NameSet.{has}
use Rattle.elab_instances.specs.Names.{with_names}
use Rattle.elab_instances.proofs.identifiers.add_ones.Given as goal

-- the set with the names of the rest has those of all
abbrev pub invariant-loop-one : goal.invariant-loop-one
invariant-loop-one l = with_names (flat_map given_identifiers (ones_view (drop l.one-index l.ones))) (has l.names) ≡ with_names (flat_map given_identifiers (ones_view l.fn.ones)) (has l.fn.names)
