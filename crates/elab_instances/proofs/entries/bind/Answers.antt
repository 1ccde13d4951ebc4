use Rattle.std.proofs.Common.{◌≡◌, true, false, ap, sym, ◌∙◌}
use Rattle.std.specs.Prelude.{is_some}
use Rattle.flat_design.specs.Scope.{binding_of}
use Rattle.elab_scope.proofs.NameSetLemmas.{copied_is_some}
use Rattle.elab_instances.proofs.BehindLemmas.{bound_old, bound_on_ok}
use Rattle.elab_instances.proofs.entries.bind.Goals as goal

pub returns-then-is_some : goal.returns-then-is_some
returns-then-is_some c =
    let g = binding_of c.args.scope.now in
    let known : is_some (g c.args.name.now) ≡ true = sym (ap (λ n. is_some (g n)) c.as_slice.ensures) ∙ sym (ap is_some c.get.ensures.value) ∙ sym (copied_is_some c.get.result) ∙ sym c.is_some.ensures ∙ c.if-is_some.true in
    bound_old g c.args.name.now c.args.entry known

pub returns : goal.returns
returns c =
    let g = binding_of c.args.scope.now in
    let new : is_some (g c.args.name.now) ≡ false = sym (ap (λ n. is_some (g n)) c.as_slice.ensures) ∙ sym (ap is_some c.get.ensures.value) ∙ sym (copied_is_some c.get.result) ∙ sym c.is_some.ensures ∙ c.if-is_some.false in
    bound_on_ok c.insert.result _ g c.args.name.now c.args.entry new c.insert.ensures
