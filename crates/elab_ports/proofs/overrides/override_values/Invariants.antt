use Rattle.std.proofs.Common.{◌≡◌, ◌++◌, true, false, drop}
use Rattle.std.specs.Prelude.{flat_map}
use Rattle.std.specs.List.{list_any}
use Rattle.elab_declarations.specs.Constants.{overrides_view}
use Rattle.flat_design.specs.Connections.{override_of, override_value_faults, value_names_faulty}
use Rattle.flat_design.specs.Fault.{none}
use Rattle.flat_design.specs.Scope.{binding_of}
use Rattle.elab_ports.specs.ConnectionView.{connections_view}
use Rattle.elab_ports.proofs.overrides.override_values.Given as goal

-- the overrides so far, with those of the connections that are left, are all; and what is left has no fault
abbrev pub invariant-loop-one : goal.invariant-loop-one
invariant-loop-one l =
    let left = connections_view (drop l.one-index l.given) in
    record {
      found : overrides_view l.found.items ++ flat_map (λ c. override_of (binding_of l.scope) c.port c.value) left ≡ flat_map (λ c. override_of (binding_of l.fn.scope) c.port c.value) (connections_view l.fn.given);
      sound : none (flat_map (λ c. override_value_faults (binding_of l.scope) c.value) left) ≡ true;
      known : list_any (λ c. value_names_faulty (binding_of l.scope) c.value) left ≡ false;
    }
