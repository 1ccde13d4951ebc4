use Rattle.std.proofs.Common.{◌≡◌, drop}
use Rattle.std.specs.Prelude.{flat_map}
use Rattle.verilog_tree.specs.View.{module_view}
use Rattle.flat_design.specs.Connections.{faulty_port_faults}
use Rattle.flat_design.specs.Scope.{binding_of}
use Rattle.elab_scope.specs.Tally.{after_faults}
use Rattle.elab_ports.specs.ConnectionView.{connections_view}
use Rattle.elab_ports.proofs.faulty.check_faulty_ports.Given as goal

-- with the faults of the ports that are left, the tally is the last one
abbrev pub invariant-loop-port : goal.invariant-loop-port
invariant-loop-port l =
    after_faults l.tally (flat_map (faulty_port_faults (binding_of l.fn.scope) l.fn.declared (connections_view l.fn.connections)) (drop l.port-index l.port-items)) ≡ after_faults l.fn.tally (flat_map (faulty_port_faults (binding_of l.fn.scope) l.fn.declared (connections_view l.fn.connections)) (module_view l.fn.definition).ports)
