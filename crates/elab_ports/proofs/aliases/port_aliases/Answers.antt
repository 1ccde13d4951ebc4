use Rattle.std.proofs.Common.{◌≡◌, ◌+◌, ◌≤◌, ◌++◌, min, ap, length, sym, arith, ◌∙◌}
use Rattle.std.proofs.lemmas.List.{length_push, length-map}
use Rattle.std.proofs.lemmas.Slice.Zip.{zip_end, zip_turn}
use Rattle.flat_design.specs.Connections.{alias_as}
use Rattle.flat_design.specs.Instances.{alias_number}
use Rattle.elab_scope.specs.NameMap.{bound_to}
use Rattle.elab_ports.specs.FirstBound.{or_bound}
use Rattle.elab_ports.specs.PortView.{joined_view, ports_view}
use Rattle.elab_ports.proofs.AliasLemmas.{aliases_from, aliases_in, aliases_more, aliases_of, aliases_over}
use Rattle.elab_ports.proofs.FirstBoundLemmas.{aliases_append, or_bound_assoc, or_nothing}
use Rattle.elab_ports.proofs.aliases.port_aliases.Goals as goal

pub loop-port-init : goal.loop-port-init
loop-port-init c = ap (λ f. or_bound f (alias_number (aliases_from c.args.ports.now c.args.joined.now 0))) c.new-aliases.ensures

pub loop-port-preserved : goal.loop-port-preserved
loop-port-preserved c =
    let js = c.args.ports.now in
    let ks = c.args.joined.now in
    let n = length c.loop-port.yielded in
    let f = bound_to c.loop-port.aliases in
    let own = alias_as c.in-Some.port.now.port.name.now.name (joined_view c.in-Some.one.now) in
    let rest = aliases_from js ks (n + 1) in
    let turn = zip_turn js ks c.loop-port.yielded c.into_iter-port-iterator.result c.loop-port.port-iterator c.next.new.self c.next.result (cc) (cc) c.loop-port.yielded_by (c.in-Some.port, c.in-Some.one) c.in-Some.is c.next.ensures.steps in
    let more : aliases_from js ks n ≡ own ++ rest = aliases_more js ks n c.in-Some.port.now c.in-Some.one.now turn.0 turn.1 (turn.2 c.in-Some.port.now) (turn.3 c.in-Some.one.now) in
    ap (λ m. or_bound (bound_to c.note_alias.new.aliases) (alias_number (aliases_from js ks m))) (length_push c.loop-port.yielded (c.in-Some.port, c.in-Some.one)) ∙
    ap (λ g. or_bound g (alias_number rest)) c.in_ok-note_alias.ensures ∙
    or_bound_assoc f (alias_number own) (alias_number rest) ∙
    ap (or_bound f) (sym (aliases_append own rest)) ∙
    ap (λ as'. or_bound f (alias_number as')) (sym more) ∙
    c.loop-port.invariant

pub returns : goal.returns
returns c =
    λ g joined.
    let js = c.args.ports.now in
    let ks = c.args.joined.now in
    let n = length c.loop-port.yielded in
    let f = bound_to c.loop-port.aliases in
    let end' : n ≡ min (length js) (length ks) = zip_end js ks c.loop-port.yielded c.into_iter-port-iterator.result c.loop-port.port-iterator c.next.new.self c.next.result (cc) (cc) c.loop-port.yielded_by c.in-None.is c.next.ensures.steps in
    let long : length ks ≡ length js = simp length-map at (ap length joined) in
    let over : length js ≤ n = omega arith in
    or_nothing f ∙
    ap (λ as'. or_bound f (alias_number as')) (sym (aliases_over js ks n over)) ∙
    c.loop-port.invariant ∙
    ap (λ ws. alias_number (aliases_of (ports_view js) ws)) joined ∙
    ap alias_number (aliases_in g (ports_view js))
