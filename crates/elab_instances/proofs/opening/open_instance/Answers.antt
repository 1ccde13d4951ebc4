use Rattle.std.proofs.Common.{sym, ap, subst, ◌∙◌}
use Rattle.std.specs.Prelude.{All}
use Rattle.verilog_tree.specs.View.{module_view}
use Rattle.flat_design.specs.Declarations as spec
use Rattle.flat_design.specs.Instances as of
use Rattle.flat_design.specs.Scope.{binding_of}
use Rattle.elab_declarations.specs.Constants.{overrides_view}
use Rattle.elab_declarations.specs.DeclarationBounds.{IsInBounds}
use Rattle.elab_scope.specs.Tally.{Tally}
use Rattle.elab_instances.specs.Entering.{numbers_after}
use Rattle.elab_instances.specs.InstanceView.{instantiation_view}
use Rattle.elab_instances.specs.Linked.{links_view}
use Rattle.elab_instances.specs.Opening.{AreCounted}
use Rattle.elab_instances.proofs.OpeningLemmas.{opened_met, opening_counted}
use Rattle.elab_instances.proofs.opening.open_instance.Goals as goal

pub meet_declared-requires : goal.meet_declared-requires
meet_declared-requires c = subst (All IsInBounds) (sym c.as_slice.ensures) c.in_ok-declared.ensures.within

pub invariant_of-result : goal.invariant_of-result
invariant_of-result c =
    let m = module_view c.args.given.now.module.now in
    let given = ap overrides_view c.deref.ensures.value in
    let scope = c.in_ok-constants.ensures.scope ∙ ap (λ os. of.constant_scope os m) given in
    record {
      parameters = c.in_ok-constants.ensures.found ∙ ap (λ os. of.constants os m) given;
      names = c.in_ok-declared.ensures.names ∙ ap (λ g. spec.declarations g m) scope;
      linked = c.in_ok-links.ensures;
    }

pub returns-clause-met : goal.returns-clause-met
returns-clause-met c =
    let i = instantiation_view c.args.given.now in
    let m = module_view c.args.given.now.module.now in
    let given = ap overrides_view c.deref.ensures.value in
    let scope = c.in_ok-constants.ensures.scope ∙ ap (λ os. of.constant_scope os m) given in
    let names = c.as_slice.ensures ∙ c.in_ok-declared.ensures.names ∙ ap (λ g. spec.declarations g m) scope in
    opened_met i _ (binding_of c.in_ok-constants.constants.scope) _ (links_view c.in_ok-links.links) c.args.tally.now c.meet_instance.new.tally c.check_constants.new.tally c.check_declarations.new.tally c.meet_declared.new.tally given scope names c.in_ok-links.ensures c.meet_instance.ensures c.in_ok-constants.ensures.met c.in_ok-declared.ensures.met c.meet_declared.ensures

pub returns-clause-counted : goal.returns-clause-counted
returns-clause-counted c first counted =
    let i = instantiation_view c.args.given.now in
    let m = module_view c.args.given.now.module.now in
    let given = ap overrides_view c.deref.ensures.value in
    let scope = c.in_ok-constants.ensures.scope ∙ ap (λ os. of.constant_scope os m) given in
    let names = c.as_slice.ensures ∙ c.in_ok-declared.ensures.names ∙ ap (λ g. spec.declarations g m) scope in
    let met = opened_met i _ (binding_of c.in_ok-constants.constants.scope) _ (links_view c.in_ok-links.links) c.args.tally.now c.meet_instance.new.tally c.check_constants.new.tally c.check_declarations.new.tally c.meet_declared.new.tally given scope names c.in_ok-links.ensures c.meet_instance.ensures c.in_ok-constants.ensures.met c.in_ok-declared.ensures.met c.meet_declared.ensures in
    let P : Tally → Type 0 = λ t. AreCounted t (numbers_after i first) in
    subst P (sym met) (opening_counted i c.args.tally.now first counted)
