use Rattle.std.proofs.Common.{◌∙◌, arith}
use Rattle.flat_design.specs.Identifiers.{option_identifiers}
use Rattle.verilog_tree.specs.View.{given_view}
use Rattle.elab_scope.specs.NameSet.{has}
use Rattle.elab_instances.proofs.NamesLemmas.{names_joined}
use Rattle.elab_instances.proofs.identifiers.add_given.Goals as goal

pub loop-connection-preserved : goal.loop-connection-preserved
loop-connection-preserved c =
    names_joined given_view (λ g. option_identifiers g.value) c.args.given.now c.loop-connection.connection-index c.connection-item.result (has c.loop-connection.names) (has c.add_value.new.names) (omega arith) c.connection-item.is c.in_ok-add_value.ensures ∙ c.loop-connection.invariant
