use Rattle.std.proofs.Common.{◌≡◌, ◌++◌, drop, map}
use Rattle.std.specs.Prelude.{flat_map}
use Rattle.flat_design.specs.Connections.{joining, port_faults}
use Rattle.flat_design.specs.Scope.{binding_of}
use Rattle.elab_scope.specs.Tally.{after_faults}
use Rattle.elab_ports.specs.PortView.{joined_view, ports_view}
use Rattle.elab_ports.proofs.joining.join_all.Given as goal

-- how the ports so far are joined, with those that are left, is how all are; so are the faults
abbrev pub invariant-loop-port : goal.invariant-loop-port
invariant-loop-port l =
    let g = binding_of l.fn.scope in
    let left = ports_view (drop l.port-index l.ports) in
    record {
      how : map joined_view l.found.items ++ map (λ j. joining g j.port j.label j.value) left ≡ map (λ j. joining g j.port j.label j.value) (ports_view l.fn.ports);
      met : after_faults l.tally (flat_map (port_faults g) left) ≡ after_faults l.fn.tally (flat_map (port_faults g) (ports_view l.fn.ports));
    }
