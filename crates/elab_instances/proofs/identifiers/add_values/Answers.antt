use Rattle.std.proofs.Common.{◌∙◌, arith}
use Rattle.flat_design.specs.Identifiers.{option_identifiers}
use Rattle.verilog_tree.specs.View.{declared_view}
use Rattle.elab_scope.specs.NameSet.{has}
use Rattle.elab_instances.proofs.NamesLemmas.{names_joined}
use Rattle.elab_instances.proofs.identifiers.add_values.Goals as goal

pub loop-one-preserved : goal.loop-one-preserved
loop-one-preserved c =
    names_joined declared_view (λ d. option_identifiers d.value) c.args.declared.now c.loop-one.one-index c.one-item.result (has c.loop-one.names) (has c.add_value.new.names) (omega arith) c.one-item.is c.in_ok-add_value.ensures ∙ c.loop-one.invariant
