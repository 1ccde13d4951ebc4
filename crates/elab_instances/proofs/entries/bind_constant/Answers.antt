use Rattle.std.proofs.Common.{◌≡◌, true, false, cond, [], ◌∷◌, subst, sym, ◌∙◌}
use Rattle.std.specs.Prelude.{OnOk}
use Rattle.flat_design.specs.Declarations.{names_parameter}
use Rattle.flat_design.specs.Scope.{binding_of}
use Rattle.elab_declarations.specs.Constants.{bound_view}
use Rattle.elab_instances.specs.Behind.{or_bound}
use Rattle.elab_instances.proofs.BehindLemmas.{or_none}
use Rattle.elab_instances.proofs.entries.bind_constant.Goals as goal

pub returns-then-not-is_parameter : goal.returns-then-not-is_parameter
returns-then-not-is_parameter c =
    let g = binding_of c.args.scope.now in
    let other : names_parameter c.args.declared.now c.args.constant.now.name ≡ false = sym c.is_parameter.ensures ∙ c.if-not-is_parameter.true in
    subst (λ b. g ≡ or_bound g (cond b (bound_view c.args.constant.now ∷ []) [])) (sym other) (sym (or_none g))

pub returns : goal.returns
returns c =
    let g = binding_of c.args.scope.now in
    let own : names_parameter c.args.declared.now c.args.constant.now.name ≡ true = sym c.is_parameter.ensures ∙ c.if-not-is_parameter.false in
    subst (λ b. OnOk c.bind.result (binding_of c.bind.new.scope ≡ or_bound g (cond b (bound_view c.args.constant.now ∷ []) []))) (sym own) c.bind.ensures
