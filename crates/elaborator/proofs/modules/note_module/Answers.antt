use Rattle.std.proofs.Common.{◌≡◌, ◌∙◌, ap, sym, false}
use Rattle.std.specs.Prelude.{is_some}
use Rattle.verilog_tree.specs.View.{module_view}
use Rattle.elab_scope.specs.NameMap.{bound_to, with_binding}
use Rattle.elab_scope.proofs.NameSetLemmas.{copied_is_some}
use Rattle.elaborator.proofs.ModuleLemmas.{noted}
use Rattle.elaborator.proofs.modules.note_module.Goals as goal

pub returns-in_ok-insert-clause-places : goal.returns-in_ok-insert-clause-places
returns-in_ok-insert-clause-places c =
    let places = bound_to c.args.places.now in
    let absent : is_some (places c.args.new.now.name.name) ≡ false =
    sym (ap (λ n. is_some (places n)) c.as_slice.ensures) ∙ sym (ap is_some c.get.ensures) ∙ sym (copied_is_some c.get.result) ∙ sym c.is_some.ensures ∙ c.if-is_some.false in
    c.in_ok-insert.ensures ∙ ap (λ n. with_binding n c.args.place places) c.as_slice-else-is_some.ensures ∙ noted (module_view c.args.new.now) c.args.place places absent
