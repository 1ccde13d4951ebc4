use Rattle.std.proofs.Common.{◌≡◌, ◌++◌, List, ap, map, sym, ◌∙◌}
use Rattle.std.specs.Prelude.{flat_map}
use Rattle.verilog_tree.specs.View.{givens_view, module_view}
use Rattle.flat_design.specs.Connections.{Connection, connections, faulty_port_faults, given_faults, joined_port, joined_ports, joining, port_faults}
use Rattle.flat_design.specs.Declarations.{Declaration}
use Rattle.flat_design.specs.Fault.{Fault}
use Rattle.flat_design.specs.Instances.{declared}
use Rattle.flat_design.specs.Scope.{binding_of}
use Rattle.elab_declarations.specs.Constants.{overrides_view}
use Rattle.elab_ports.specs.ConnectionView.{connections_view}
use Rattle.elab_ports.specs.PortView.{ports_view}
use Rattle.elab_scope.specs.Tally.{after_faults}
use Rattle.elab_scope.specs.View.{names_view}
use Rattle.elab_scope.proofs.TallyLemmas.{after_faults-append}
use Rattle.elaborator.proofs.inner.check_ports.Goals as goal

pub returns-clause-ports : goal.returns-clause-ports
returns-clause-ports c =
    let m = module_view c.args.of.now.module.now in
    let os = overrides_view c.args.of.now.overrides.items in
    let label = c.args.item.module.now in
    let cs = givens_view c.args.given.now in
    c.in_ok-ports.ensures
    ∙ ap (λ ds. flat_map (joined_port ds (connections_view c.deref-3.result.now)) m.ports) (c.in_ok-declared.ensures ∙ ap (λ ys. declared (overrides_view ys) m) c.deref-2.ensures.value)
    ∙ ap (λ ws. flat_map (joined_port (declared os m) (connections_view ws)) m.ports) c.deref-3.ensures.value
    ∙ ap (λ ws. flat_map (joined_port (declared os m) ws) m.ports)
    (c.in_ok-connections.ensures.connections ∙ ap (λ x. connections x (names_view c.deref.result.now) cs) c.of-label.ensures ∙ ap (λ ns. connections label (names_view ns) cs) c.deref.ensures.value ∙ ap (λ ns. connections label ns cs) c.in_ok-names.ensures)

pub returns-clause-how : goal.returns-clause-how
returns-clause-how c = c.in_ok-joined.ensures.how ∙ ap (λ js. map (λ j. joining (binding_of c.args.scope.now) j.port j.label j.value) (ports_view js)) c.deref-4.ensures.value

pub returns-clause-met : goal.returns-clause-met
returns-clause-met c =
    let g = binding_of c.args.scope.now in
    let m = module_view c.args.of.now.module.now in
    let os = overrides_view c.args.of.now.overrides.items in
    let label = c.args.item.module.now in
    let cs = givens_view c.args.given.now in
    let t = c.args.tally.now in
    let first = given_faults label m.ports cs in
    let second = flat_map (port_faults g) (joined_ports os m label cs) in
    let faulty : List Declaration → List Connection → List Fault = λ ds ws. flat_map (faulty_port_faults g ds ws) m.ports in
    let given : c.check_given.new.tally ≡ after_faults t first =
    c.in_ok-connections.ensures.met ∙ ap (λ x. after_faults t (given_faults x (names_view c.deref.result.now) cs)) c.of-label.ensures ∙ ap (λ ns. after_faults t (given_faults label (names_view ns) cs)) c.deref.ensures.value ∙ ap (λ ns. after_faults t (given_faults label ns cs)) c.in_ok-names.ensures in
    let joined : c.join_all.new.tally ≡ after_faults t (first ++ second) =
    c.in_ok-joined.ensures.met
    ∙ ap (λ u. after_faults u (flat_map (port_faults g) (ports_view c.deref-4.result.now))) given
    ∙ ap (λ js. after_faults (after_faults t first) (flat_map (port_faults g) (ports_view js))) c.deref-4.ensures.value
    ∙ ap (λ js. after_faults (after_faults t first) (flat_map (port_faults g) js)) (returns-clause-ports c)
    ∙ sym (after_faults-append t first second) in
    c.in_ok-check_faulty_ports.ensures
    ∙ ap (λ u. after_faults u (faulty c.in_ok-declared.declared (connections_view c.deref-5.result.now))) joined
    ∙ ap (λ ds. after_faults (after_faults t (first ++ second)) (faulty ds (connections_view c.deref-5.result.now))) (c.in_ok-declared.ensures ∙ ap (λ ys. declared (overrides_view ys) m) c.deref-2.ensures.value)
    ∙ ap (λ ws. after_faults (after_faults t (first ++ second)) (faulty (declared os m) (connections_view ws))) c.deref-5.ensures.value
    ∙ ap (λ ws. after_faults (after_faults t (first ++ second)) (faulty (declared os m) ws))
    (c.in_ok-connections.ensures.connections ∙ ap (λ x. connections x (names_view c.deref.result.now) cs) c.of-label.ensures ∙ ap (λ ns. connections label (names_view ns) cs) c.deref.ensures.value ∙ ap (λ ns. connections label ns cs) c.in_ok-names.ensures)
    ∙ sym (after_faults-append t (first ++ second) (faulty (declared os m) (connections label m.ports cs)))
