use Rattle.std.proofs.Common.{arith, ◌≡◌, ◌∷◌, [], ◌++◌, ◌+◌, append_assoc, append-nil, List, ap, drop, sym, ◌∙◌}
use Rattle.std.specs.Prelude.{flat_map}
use Rattle.std.specs.Option.{option_to_list}
use Rattle.std.proofs.lemmas.Grind.{common_steps}
use Rattle.std.proofs.lemmas.List.{map-append}
use Rattle.verilog_tree.specs.declared.item.Named.{Named}
use Rattle.flat_design.specs.Connections.{JoinedPort, declaration_of, declared_port, joined_port}
use Rattle.elab_ports.specs.ConnectionView.{connections_view}
use Rattle.elab_ports.specs.FirstBound.{connections_by}
use Rattle.elab_ports.specs.PortView.{port_view, ports_view}
use Rattle.elab_ports.proofs.ports.joined_ports.Goals as goal
use Rattle.elab_ports.proofs.ports.joined_ports.Goals.{in-Some+in_ok-push, in_default}

-- the port is added, if there is one
added : (c : goal.Joined-joined_port) → ports_view c.match-joined_port.found.items ≡ ports_view c.loop-port.found.items ++ ports_view (option_to_list c.joined_port.result)
added c =
    elim c.match-joined_port.branch [
      | in-Some+in_ok-push w ↦
          ap (λ v. ports_view v.items) w.found-is ∙ ap ports_view w.in_ok-push.ensures.items ∙ map-append port_view c.loop-port.found.items (w.in-Some.joined ∷ []) ∙ ap (λ r. ports_view c.loop-port.found.items ++ ports_view (option_to_list r)) (sym w.in-Some.is)
      | in_default w ↦ ap (λ v. ports_view v.items) w.found-is ∙ sym (append-nil (ports_view c.loop-port.found.items)) ∙ ap (λ r. ports_view c.loop-port.found.items ++ ports_view (option_to_list r)) (sym w.in_default.is)
    ]

pub loop-port-preserved : goal.loop-port-preserved
loop-port-preserved c =
    let ds = c.args.declared.now in
    let cs = connections_view c.args.connections.now in
    let x = c.port-item.result in
    let ports = c.as_slice-port-items.result.now in
    let i = c.loop-port.port-index in
    let found = ports_view c.loop-port.found.items in
    let own : Named → List JoinedPort = joined_port ds cs in
    let rest = flat_map own (drop (i + 1) ports) in
    let split : drop i ports ≡ x ∷ drop (i + 1) ports = grind (arith, common_steps) in
    let is : ports_view (option_to_list c.joined_port.result) ≡ own x =
    c.joined_port.ensures ∙ ap (λ n. declared_port (declaration_of ds n) (connections_by c.in_ok-first.first n)) c.as_slice.ensures ∙ ap (λ f. declared_port (declaration_of ds x.name) (f x.name)) c.in_ok-first.ensures in
    ap (λ js. js ++ rest) (added c ∙ ap (λ js. found ++ js) is) ∙ append_assoc found (own x) rest ∙ ap (λ ns. found ++ flat_map own ns) (sym split) ∙ c.loop-port.invariant
