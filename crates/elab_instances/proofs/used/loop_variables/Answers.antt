use Rattle.std.proofs.Common.{List, ap, ◌∙◌, arith}
use Rattle.std.specs.Prelude.{flat_map}
use Rattle.verilog_tree.specs.Tree.{Item}
use Rattle.verilog_tree.specs.View.{item_view, items_view}
use Rattle.verilog_tree.specs.declared.item.Named.{Named}
use Rattle.flat_design.specs.Identifiers.{item_loops}
use Rattle.elab_scope.specs.NameSet.{has}
use Rattle.elab_instances.specs.Names.{with_names}
use Rattle.elab_instances.proofs.NamesLemmas.{names_alone, names_joined}
use Rattle.elab_instances.proofs.used.loop_variables.Goals as goal

pub loop-item-init : goal.loop-item-init
loop-item-init c =
    let own : Item → List Named = λ i. item_loops i.form in
    let all : List Named = flat_map own (items_view c.args.definition.now.items) in
    ap (λ is. with_names (flat_map own (items_view is)) (has c.new-names.result)) c.as_slice-item-items.ensures ∙ ap (λ s. with_names all (has s)) c.new-names.ensures ∙ names_alone all

pub loop-item-preserved : goal.loop-item-preserved
loop-item-preserved c =
    let own : Item → List Named = λ i. item_loops i.form in
    names_joined item_view own c.as_slice-item-items.result.now c.loop-item.item-index c.item-item.result (has c.loop-item.names) (has c.add_item_loops.new.names) (omega arith) c.item-item.is c.in_ok-add_item_loops.ensures ∙ c.loop-item.invariant
