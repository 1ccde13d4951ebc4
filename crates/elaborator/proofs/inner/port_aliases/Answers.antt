use Rattle.std.proofs.Common.{◌≡◌, ◌+◌, ◌≤◌, ◌++◌, append_assoc, append-nil, min, ap, length, sym, arith, ◌∙◌}
use Rattle.std.proofs.lemmas.List.{length_push, length-map}
use Rattle.std.proofs.lemmas.Slice.Zip.{zip_end, zip_turn}
use Rattle.flat_design.specs.Connections.{alias_as}
use Rattle.elab_instances.specs.InstanceView.{aliases_view}
use Rattle.elab_ports.specs.PortView.{joined_view, ports_view}
use Rattle.elab_ports.proofs.AliasLemmas.{aliases_from, aliases_in, aliases_more, aliases_of, aliases_over}
use Rattle.elaborator.proofs.inner.port_aliases.Goals as goal

pub loop-port-preserved : goal.loop-port-preserved
loop-port-preserved c =
    let js = c.args.ports.now in
    let ks = c.args.joined.now in
    let n = length c.loop-port.yielded in
    let found = aliases_view c.loop-port.aliases.items in
    let own = alias_as c.in-Some.port.now.port.name.now.name (joined_view c.in-Some.one.now) in
    let rest = aliases_from js ks (n + 1) in
    let turn = zip_turn js ks c.loop-port.yielded c.into_iter-port-iterator.result c.loop-port.port-iterator c.next.new.self c.next.result (cc) (cc) c.loop-port.yielded_by (c.in-Some.port, c.in-Some.one) c.in-Some.is c.next.ensures.steps in
    let more : aliases_from js ks n ≡ own ++ rest = aliases_more js ks n c.in-Some.port.now c.in-Some.one.now turn.0 turn.1 (turn.2 c.in-Some.port.now) (turn.3 c.in-Some.one.now) in
    ap (λ m. aliases_view c.push_alias.new.aliases.items ++ aliases_from js ks m) (length_push c.loop-port.yielded (c.in-Some.port, c.in-Some.one)) ∙
    ap (λ as'. as' ++ rest) c.in_ok-push_alias.ensures ∙
    append_assoc found own rest ∙
    ap (λ as'. found ++ as') (sym more) ∙
    c.loop-port.invariant

pub returns : goal.returns
returns c =
    λ g joined.
    let js = c.args.ports.now in
    let ks = c.args.joined.now in
    let n = length c.loop-port.yielded in
    let found = aliases_view c.loop-port.aliases.items in
    let end' : n ≡ min (length js) (length ks) = zip_end js ks c.loop-port.yielded c.into_iter-port-iterator.result c.loop-port.port-iterator c.next.new.self c.next.result (cc) (cc) c.loop-port.yielded_by c.in-None.is c.next.ensures.steps in
    let long : length ks ≡ length js = simp length-map at (ap length joined) in
    let over : length js ≤ n = omega arith in
    sym (append-nil found) ∙
    ap (λ as'. found ++ as') (sym (aliases_over js ks n over)) ∙
    c.loop-port.invariant ∙
    ap (λ ws. aliases_of (ports_view js) ws) joined ∙
    aliases_in g (ports_view js)
