use Rattle.std.proofs.Common.{◌≡◌, [], drop, ap, sym, subst, ◌∙◌, arith}
use Rattle.std.proofs.lemmas.Grind.{common_steps}
use Rattle.std.proofs.lemmas.List.Elements.{All-get_or}
use Rattle.flat_design.specs.Declarations.{names_parameter}
use Rattle.flat_design.specs.Scope.{binding_of}
use Rattle.elab_declarations.specs.Constants.{bindings_view, bound_view}
use Rattle.elab_declarations.specs.declared.constants.BoundParam.{BoundParam}
use Rattle.elab_scope.specs.Entries.{IsEntry}
use Rattle.elab_instances.specs.Behind.{or_bound}
use Rattle.elab_instances.specs.Entering.{own_bindings}
use Rattle.elab_instances.proofs.BehindLemmas.{or_none, passing_next}
use Rattle.elab_instances.proofs.entries.bind_constants.Goals as goal

pub bind_constant-requires : goal.bind_constant-requires
bind_constant-requires c =
    let P : BoundParam → Type 0 = λ p. IsEntry p.entry in
    subst P (sym c.constant-item.is) (All-get_or P c.args.constants.now c.loop-constant.constant-index c.constant-item.result (omega arith) c.requires)

pub loop-constant-preserved : goal.loop-constant-preserved
loop-constant-preserved c =
    passing_next (λ b. names_parameter c.args.declared.now b.0) bound_view c.args.constants.now c.loop-constant.constant-index c.constant-item.result (binding_of c.loop-constant.scope) (binding_of c.bind_constant.new.scope) (omega arith) c.constant-item.is c.in_ok-bind_constant.ensures ∙ c.loop-constant.invariant

pub returns : goal.returns
returns c =
    let over : drop c.loop-constant.constant-index c.args.constants.now ≡ [] = grind (arith, common_steps) in
    sym (or_none (binding_of c.loop-constant.scope)) ∙ ap (λ ps. or_bound (binding_of c.loop-constant.scope) (own_bindings c.args.declared.now (bindings_view ps))) (sym over) ∙ c.loop-constant.invariant
