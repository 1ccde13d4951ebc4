use Rattle.std.proofs.Common.{◌∙◌, arith}
use Rattle.flat_design.specs.Identifiers.{given_identifiers}
use Rattle.verilog_tree.specs.View.{one_view}
use Rattle.elab_scope.specs.NameSet.{has}
use Rattle.elab_instances.proofs.NamesLemmas.{names_joined}
use Rattle.elab_instances.proofs.identifiers.add_ones.Goals as goal

pub loop-one-preserved : goal.loop-one-preserved
loop-one-preserved c =
    let here = rw c.as_slice.ensures at c.in_ok-add_given.ensures in
    names_joined one_view given_identifiers c.args.ones.now c.loop-one.one-index c.one-item.result (has c.loop-one.names) (has c.add_given.new.names) (omega arith) c.one-item.is here ∙ c.loop-one.invariant
