use Rattle.std.proofs.Common.{not, ap, sym, ◌∙◌}
use Rattle.std.specs.Prelude.{is_some}
use Rattle.elab_scope.specs.NameMap.{bound_to}
use Rattle.elab_scope.proofs.NameSetLemmas.{copied_is_some}
use Rattle.elab_ports.proofs.FirstBoundLemmas.{first_bound}
use Rattle.elab_ports.proofs.first.bind_first.Goals as goal

pub returns-in_ok-insert : goal.returns-in_ok-insert
returns-in_ok-insert g c =
    let some = sym (ap is_some c.get.ensures) ∙ sym (copied_is_some c.get.result) ∙ c.is_none.ensures ∙ ap not c.if-is_none.true in
    c.in_ok-insert.ensures ∙ first_bound c.args.name.now c.args.value (bound_to c.args.map.now) (ap not some)
