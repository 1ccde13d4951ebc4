use Rattle.std.proofs.Common.{◌≡◌, drop}
use Rattle.verilog_tree.specs.View.{module_view, params_view}
use Rattle.flat_design.specs.Declarations.{constants_faults, constants_from}
use Rattle.flat_design.specs.Instances.{other_names}
use Rattle.flat_design.specs.Scope.{binding_of}
use Rattle.elab_declarations.specs.Constants.{AreSeen, bindings_view, overrides_view}
use Rattle.elab_scope.specs.Tally.{after_faults}
use Rattle.elab_declarations.proofs.constants.add_params.Given as goal

-- with the parameters that are left the constants and the tally are the last ones
abbrev pub invariant-loop-param : goal.invariant-loop-param
invariant-loop-param l =
    record {
      same : l.constants.module ≡ l.fn.constants.module;
      seen : AreSeen (module_view l.fn.constants.module.now) (bindings_view l.constants.found.items) (binding_of l.constants.scope);
      found : constants_from (other_names (module_view l.fn.constants.module.now)) (overrides_view l.fn.overrides) (bindings_view l.constants.found.items) (params_view (drop l.param-index l.params)) ≡ constants_from (other_names (module_view l.fn.constants.module.now)) (overrides_view l.fn.overrides) (bindings_view l.fn.constants.found.items) (params_view l.fn.params);
      met : after_faults l.tally (constants_faults (other_names (module_view l.fn.constants.module.now)) (overrides_view l.fn.overrides) (bindings_view l.constants.found.items) (params_view (drop l.param-index l.params))) ≡ after_faults l.fn.tally (constants_faults (other_names (module_view l.fn.constants.module.now)) (overrides_view l.fn.overrides) (bindings_view l.fn.constants.found.items) (params_view l.fn.params));
    }
