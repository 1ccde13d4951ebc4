use Rattle.std.proofs.Common.{◌≡◌, ◌&&◌, drop}
use Rattle.std.specs.Prelude.{flat_map}
use Rattle.flat_design.specs.Connections.{override_value_faults}
use Rattle.flat_design.specs.Fault.{none}
use Rattle.flat_design.specs.Scope.{binding_of}
use Rattle.elab_scope.specs.Tally.{after_faults}
use Rattle.elab_ports.specs.ConnectionView.{connections_view}
use Rattle.elab_ports.proofs.overrides.check_values.Given as goal

-- the faults so far, with those of the values that are left, are those of all
abbrev pub invariant-loop-one : goal.invariant-loop-one
invariant-loop-one l =
    let rest = flat_map (λ c. override_value_faults (binding_of l.scope) c.value) (connections_view (drop l.one-index l.overrides)) in
    let all = flat_map (λ c. override_value_faults (binding_of l.fn.scope) c.value) (connections_view l.fn.overrides) in
    record {
      met : after_faults l.tally rest ≡ after_faults l.fn.tally all;
      sound : (l.sound && none rest) ≡ none all;
    }
