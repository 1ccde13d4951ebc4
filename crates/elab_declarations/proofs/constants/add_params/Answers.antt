use Rattle.std.proofs.Common.{◌≡◌, ◌+◌, [], ◌∷◌, List, drop, sym, ap, subst, ◌∙◌, arith}
use Rattle.std.specs.Prelude.{is_none, if◌then◌else◌}
use Rattle.std.proofs.lemmas.Grind.{common_steps}
use Rattle.verilog_tree.specs.View.{module_view, param_view, params_view}
use Rattle.flat_design.specs.Declarations.{constants_faults, constants_from, param_faults, with_param}
use Rattle.flat_design.specs.Fault.{Fault}
use Rattle.flat_design.specs.Instances.{other_names}
use Rattle.flat_design.specs.Scope.{Scope, binding_of, with_bindings}
use Rattle.elab_declarations.specs.Constants.{AreSeen, bindings_view, overrides_view}
use Rattle.elab_scope.specs.Tally.{after_faults}
use Rattle.elab_scope.proofs.TallyLemmas.{after_faults-append}
use Rattle.elab_declarations.proofs.constants.add_params.Goals as goal

pub add_param-requires : goal.add_param-requires
add_param-requires c =
    subst (λ k. AreSeen (module_view k.now) (bindings_view c.loop-param.constants.found.items) (binding_of c.loop-param.constants.scope)) (sym c.loop-param.invariant.same) c.loop-param.invariant.seen

pub loop-param-preserved : goal.loop-param-preserved
loop-param-preserved c =
    let others = other_names (module_view c.args.constants.now.«module».now) in
    let os = overrides_view c.args.overrides.now in
    let bs = bindings_view c.loop-param.constants.found.items in
    let g = binding_of c.loop-param.constants.scope in
    let p = param_view c.param-item.result in
    let i = c.loop-param.param-index in
    let h = c.loop-param.invariant in
    let rest = params_view (drop (i + 1) c.args.params.now) in
    let split : params_view (drop i c.args.params.now) ≡ p ∷ rest = grind (arith, common_steps) in
    let next = bindings_view c.add_param.new.constants.found.items in
    let more : next ≡ with_param others os bs p = c.in_ok-add_param.ensures.found ∙ ap (λ k. with_param (other_names (module_view k.now)) os bs p) h.same in
    let own : Scope → List Fault = λ g. if is_none (binding_of bs p.name.name) then param_faults g p else [] in
    let told = c.in_ok-add_param.ensures.met ∙ ap (λ g. after_faults c.loop-param.tally (own g)) h.seen.0 in
    record {
      same = c.in_ok-add_param.ensures.same ∙ h.same;
      seen = subst (λ k. AreSeen (module_view k.now) next (binding_of c.add_param.new.constants.scope)) h.same c.in_ok-add_param.ensures.seen;
      found = ap (λ b. constants_from others os b rest) more ∙ ap (constants_from others os bs) (sym split) ∙ h.found;
      met =
          ap (λ b. after_faults c.add_param.new.tally (constants_faults others os b rest)) more ∙
          ap (λ t. after_faults t (constants_faults others os (with_param others os bs p) rest)) told ∙
          sym (after_faults-append c.loop-param.tally (own (with_bindings bs others)) (constants_faults others os (with_param others os bs p) rest)) ∙
          ap (λ ps. after_faults c.loop-param.tally (constants_faults others os bs ps)) (sym split) ∙ h.met;
    }
