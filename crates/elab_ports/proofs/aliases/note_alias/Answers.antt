use Rattle.std.proofs.Common.{◌≡◌, ap, subst, sym, ◌∙◌}
use Rattle.std.specs.Prelude.{OnOk}
use Rattle.flat_design.specs.Connections.{alias_as}
use Rattle.flat_design.specs.Instances.{alias_number}
use Rattle.elab_scope.specs.NameMap.{bound_to}
use Rattle.elab_ports.specs.FirstBound.{only_bound, or_bound}
use Rattle.elab_ports.specs.PortView.{joined_view}
use Rattle.elab_ports.proofs.FirstBoundLemmas.{alias_bound}
use Rattle.elab_ports.proofs.aliases.note_alias.Goals as goal

pub returns-in-Alias : goal.returns-in-Alias
returns-in-Alias c =
    let x = c.args.port.now.port.name.now.name in
    let one : only_bound c.as_slice.result.now c.in-Alias.signal ≡ alias_number (alias_as x (joined_view c.args.joined)) =
    ap (λ n. only_bound n c.in-Alias.signal) c.as_slice.ensures ∙ alias_bound x c.in-Alias.signal ∙ ap (λ k. alias_number (alias_as x (joined_view k))) (sym c.in-Alias.is) in
    subst (λ f. OnOk c.bind_first.result (bound_to c.bind_first.new.map ≡ or_bound (bound_to c.args.aliases.now) f)) one c.bind_first.ensures
