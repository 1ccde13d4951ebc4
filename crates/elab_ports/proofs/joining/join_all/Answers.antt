use Rattle.std.proofs.Common.{◌++◌, ◌+◌, ap, drop, map, ◌∙◌}
use Rattle.std.specs.Prelude.{flat_map}
use Rattle.flat_design.specs.Connections.{Joined, JoinedPort, joining, port_faults}
use Rattle.flat_design.specs.Scope.{binding_of}
use Rattle.elab_declarations.proofs.ListLemmas.{met_more, viewed_more}
use Rattle.elab_scope.specs.Tally.{after_faults}
use Rattle.elab_ports.specs.PortView.{joined_view, port_view, ports_view}
use Rattle.elab_ports.proofs.joining.join_all.Goals as goal

pub loop-port-preserved : goal.loop-port-preserved
loop-port-preserved c =
    let g = binding_of c.args.scope.now in
    let how : JoinedPort → Joined = λ j. joining g j.port j.label j.value in
    let i = c.loop-port.port-index in
    let js = c.args.ports.now in
    let x = c.port-item.result in
    let rest = ports_view (drop (i + 1) js) in
    record {
      how = ap (λ ks. map joined_view ks ++ map how rest) c.in_ok-push.ensures.items ∙ viewed_more joined_view port_view how c.loop-port.found.items js i c.join.result x c.loop-port-test.true c.port-item.is c.join.ensures.how ∙ c.loop-port.invariant.how;
      met = ap (λ t. after_faults t (flat_map (port_faults g) rest)) c.join.ensures.met ∙ met_more port_view (port_faults g) js i x c.loop-port.tally c.loop-port-test.true c.port-item.is ∙ c.loop-port.invariant.met;
    }
