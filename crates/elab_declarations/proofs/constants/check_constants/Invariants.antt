use Rattle.std.proofs.Common.{◌≡◌, [], drop}
use Rattle.std.specs.Prelude.{flat_map}
use Rattle.verilog_tree.specs.View.{items_view, module_view}
use Rattle.flat_design.specs.Declarations.{constants_faults, constants_from}
use Rattle.flat_design.specs.Identifiers.{item_params, params_of}
use Rattle.flat_design.specs.Instances.{constants, other_names}
use Rattle.flat_design.specs.Scope.{binding_of}
use Rattle.elab_declarations.specs.Constants.{AreSeen, bindings_view, overrides_view}
use Rattle.elab_scope.specs.Tally.{after_faults}
use Rattle.elab_declarations.proofs.constants.check_constants.Given as goal

-- with the parameters of the items that are left the constants and the tally are the whole
abbrev pub invariant-loop-item : goal.invariant-loop-item
invariant-loop-item l =
    record {
      same : l.constants.module.now ≡ l.fn.definition;
      seen : AreSeen (module_view l.fn.definition) (bindings_view l.constants.found.items) (binding_of l.constants.scope);
      found : constants_from (other_names (module_view l.fn.definition)) (overrides_view l.fn.overrides) (bindings_view l.constants.found.items) (flat_map (λ i. item_params i.form) (items_view (drop l.item-index l.item-items))) ≡ constants (overrides_view l.fn.overrides) (module_view l.fn.definition);
      met : after_faults l.tally (constants_faults (other_names (module_view l.fn.definition)) (overrides_view l.fn.overrides) (bindings_view l.constants.found.items) (flat_map (λ i. item_params i.form) (items_view (drop l.item-index l.item-items)))) ≡ after_faults l.fn.tally (constants_faults (other_names (module_view l.fn.definition)) (overrides_view l.fn.overrides) [] (params_of (module_view l.fn.definition)));
    }
