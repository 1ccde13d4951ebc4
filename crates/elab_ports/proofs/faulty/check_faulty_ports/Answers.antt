use Rattle.std.proofs.Common.{arith, ◌≡◌, ◌∷◌, ◌+◌, List, ap, drop, sym, ◌∙◌}
use Rattle.std.specs.Prelude.{flat_map}
use Rattle.std.proofs.lemmas.Grind.{common_steps}
use Rattle.verilog_tree.specs.declared.item.Named.{Named}
use Rattle.flat_design.specs.Connections.{declaration_of, faulty_faults, faulty_port_faults}
use Rattle.flat_design.specs.Fault.{Fault}
use Rattle.flat_design.specs.Scope.{binding_of}
use Rattle.elab_scope.specs.Tally.{after_faults}
use Rattle.elab_scope.proofs.TallyLemmas.{after_faults-append}
use Rattle.elab_ports.specs.ConnectionView.{connections_view}
use Rattle.elab_ports.specs.FirstBound.{connections_by}
use Rattle.elab_ports.proofs.faulty.check_faulty_ports.Goals as goal

pub loop-port-preserved : goal.loop-port-preserved
loop-port-preserved c =
    let g = binding_of c.args.scope.now in
    let ds = c.args.declared.now in
    let cs = connections_view c.args.connections.now in
    let x = c.port-item.result in
    let ports = c.as_slice-port-items.result.now in
    let i = c.loop-port.port-index in
    let t = c.loop-port.tally in
    let own : Named → List Fault = faulty_port_faults g ds cs in
    let rest = flat_map own (drop (i + 1) ports) in
    let split : drop i ports ≡ x ∷ drop (i + 1) ports = grind (arith, common_steps) in
    let is : c.check_faulty_port.new.tally ≡ after_faults t (own x) =
    c.check_faulty_port.ensures ∙ ap (λ n. after_faults t (faulty_faults g (declaration_of ds n) (connections_by c.in_ok-first.first n))) c.as_slice.ensures ∙ ap (λ f. after_faults t (faulty_faults g (declaration_of ds x.name) (f x.name))) c.in_ok-first.ensures in
    ap (λ u. after_faults u rest) is ∙ sym (after_faults-append t (own x) rest) ∙ ap (λ ns. after_faults t (flat_map own ns)) (sym split) ∙ c.loop-port.invariant
