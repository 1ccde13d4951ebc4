use Rattle.std.proofs.Common.{◌≡◌, ◌++◌, drop}
use Rattle.std.specs.Prelude.{flat_map}
use Rattle.verilog_tree.specs.View.{items_view, module_view}
use Rattle.flat_design.specs.Declarations.{all_declarations, item_declarations, item_range_faults}
use Rattle.flat_design.specs.Instances.{range_faults}
use Rattle.flat_design.specs.Scope.{binding_of}
use Rattle.elab_declarations.specs.DeclarationView.{declarations_view}
use Rattle.elab_scope.specs.Tally.{after_faults}
use Rattle.elab_declarations.proofs.items.all_declarations.Given as goal

-- the list and the tally with the items that are left are the whole
abbrev pub invariant-loop-item : goal.invariant-loop-item
invariant-loop-item l =
    record {
      names : declarations_view l.list.items ++ flat_map (λ i. item_declarations (binding_of l.fn.scope) i.place i.form) (items_view (drop l.item-index l.item-items)) ≡ all_declarations (binding_of l.fn.scope) (module_view l.fn.definition);
      met : after_faults l.tally (flat_map (λ i. item_range_faults (binding_of l.fn.scope) i.place i.form) (items_view (drop l.item-index l.item-items))) ≡ after_faults l.fn.tally (range_faults (binding_of l.fn.scope) (module_view l.fn.definition));
    }
