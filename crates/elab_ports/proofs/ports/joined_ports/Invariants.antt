use Rattle.std.proofs.Common.{◌≡◌, ◌++◌, drop}
use Rattle.std.specs.Prelude.{flat_map}
use Rattle.verilog_tree.specs.View.{module_view}
use Rattle.flat_design.specs.Connections.{joined_port}
use Rattle.elab_ports.specs.ConnectionView.{connections_view}
use Rattle.elab_ports.specs.PortView.{ports_view}
use Rattle.elab_ports.proofs.ports.joined_ports.Given as goal

-- the ports so far, with those of the names that are left, are all
abbrev pub invariant-loop-port : goal.invariant-loop-port
invariant-loop-port l =
    ports_view l.found.items ++ flat_map (joined_port l.fn.declared (connections_view l.fn.connections)) (drop l.port-index l.port-items) ≡ flat_map (joined_port l.fn.declared (connections_view l.fn.connections)) (module_view l.fn.definition).ports
