use Rattle.std.proofs.Common.{◌+◌, ◌++◌, drop, ap, ◌∙◌, arith}
use Rattle.std.specs.Prelude.{flat_map, List}
use Rattle.verilog_tree.specs.Tree.{Item}
use Rattle.verilog_tree.specs.View.{item_view, items_view}
use Rattle.flat_design.specs.Declarations as spec
use Rattle.flat_design.specs.Fault.{Fault}
use Rattle.flat_design.specs.Scope.{binding_of}
use Rattle.elab_declarations.specs.DeclarationView.{declarations_view}
use Rattle.elab_scope.specs.Tally.{after_faults}
use Rattle.elab_declarations.proofs.ListLemmas.{joined_more, met_more}
use Rattle.elab_declarations.proofs.items.all_declarations.Goals as goal

pub loop-item-preserved : goal.loop-item-preserved
loop-item-preserved c =
    let g = binding_of c.args.scope.now in
    let own : Item → List spec.Declaration = λ i. spec.item_declarations g i.place i.form in
    let wrong : Item → List Fault = λ i. spec.item_range_faults g i.place i.form in
    let x = c.item-item.result in
    let i = c.loop-item.item-index in
    let xs = c.as_slice-item-items.result.now in
    record {
      names = ap (λ ds. ds ++ flat_map own (items_view (drop (i + 1) xs))) c.in_ok-declare_item.ensures.names ∙ joined_more item_view own (declarations_view c.loop-item.list.items) xs i x (omega arith) c.item-item.is ∙ c.loop-item.invariant.names;
      met = ap (λ t. after_faults t (flat_map wrong (items_view (drop (i + 1) xs)))) c.in_ok-declare_item.ensures.met ∙ met_more item_view wrong xs i x c.loop-item.tally (omega arith) c.item-item.is ∙ c.loop-item.invariant.met;
    }
