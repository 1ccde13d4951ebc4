use Rattle.std.proofs.Common.{◌≡◌, ◌+◌, [], ◌∷◌, ◌++◌, List, drop, sym, ap, subst, ◌∙◌, arith}
use Rattle.std.specs.Prelude.{flat_map}
use Rattle.std.proofs.lemmas.Grind.{common_steps}
use Rattle.verilog_tree.specs.Tree.{Param}
use Rattle.verilog_tree.specs.View.{item_form_view, item_view, items_view, module_view, params_view}
use Rattle.flat_design.specs.Declarations.{constants_faults, constants_from}
use Rattle.flat_design.specs.Identifiers.{item_params}
use Rattle.flat_design.specs.Instances.{other_names}
use Rattle.flat_design.specs.Scope.{binding_of, with_bindings}
use Rattle.elab_declarations.specs.Constants.{AreParams, AreSeen, bindings_view, overrides_view}
use Rattle.elab_scope.specs.Tally.{after_faults}
use Rattle.elab_declarations.proofs.ConstantsLemmas.{constants_append, met_append}
use Rattle.elab_declarations.proofs.constants.check_constants.Goals as goal

pub loop-item-preserved : goal.loop-item-preserved
loop-item-preserved c =
    let m = module_view c.args.definition.now in
    let others = other_names m in
    let os = overrides_view c.args.overrides.now in
    let bs = bindings_view c.loop-item.constants.found.items in
    let own = item_params (item_form_view c.item-item.result.form) in
    let items = c.as_slice-item-items.result.now in
    let i = c.loop-item.item-index in
    let h = c.loop-item.invariant in
    let rest : List Param = flat_map (λ i. item_params i.form) (items_view (drop (i + 1) items)) in
    let split : flat_map (λ i. item_params i.form) (items_view (drop i items)) ≡ own ++ rest = ap (λ is. flat_map (λ i. item_params i.form) is) (let e : items_view (drop i items) ≡ item_view c.item-item.result ∷ items_view (drop (i + 1) items) = grind (arith, common_steps) in e) in
    let next = bindings_view c.add_item_params.new.constants.found.items in
    let more : next ≡ constants_from others os bs own = c.in_ok-add_item_params.ensures.found ∙ ap (λ k. constants_from (other_names (module_view k)) os bs own) h.same in
    let told : c.add_item_params.new.tally ≡ after_faults c.loop-item.tally (constants_faults others os bs own) = c.in_ok-add_item_params.ensures.met ∙ ap (λ k. after_faults c.loop-item.tally (constants_faults (other_names (module_view k)) os bs own)) h.same in
    record {
      same = ap (λ k. k.now) c.in_ok-add_item_params.ensures.same ∙ h.same;
      seen = subst (λ k. AreSeen (module_view k) next (binding_of c.add_item_params.new.constants.scope)) h.same c.in_ok-add_item_params.ensures.seen;
      found = ap (λ b. constants_from others os b rest) more ∙ sym (constants_append others os bs own rest) ∙ ap (constants_from others os bs) (sym split) ∙ h.found;
      met = met_append others os bs next own rest c.loop-item.tally c.add_item_params.new.tally more told ∙ ap (λ ps. after_faults c.loop-item.tally (constants_faults others os bs ps)) (sym split) ∙ h.met;
    }

pub add_params-requires : goal.add_params-requires
add_params-requires c =
    let others = other_names (module_view c.args.definition.now) in
    (c.in_ok-other_names.ensures ∙ ap (λ ps. with_bindings (bindings_view ps) others) (sym c.new.ensures.items), subst (λ ps. AreParams (bindings_view ps)) (sym c.new.ensures.items) tt)

pub loop-item-init : goal.loop-item-init
loop-item-init c =
    let m = module_view c.args.definition.now in
    let others = other_names m in
    let os = overrides_view c.args.overrides.now in
    let t = c.args.tally.now in
    let u = c.add_params.new.tally in
    let next = bindings_view c.add_params.new.constants.found.items in
    let rest : List Param = flat_map (λ i. item_params i.form) m.items in
    let more : next ≡ constants_from others os [] m.params =
    c.in_ok-add_params.ensures.found ∙ ap (λ ps. constants_from others os (bindings_view ps) (params_view c.as_slice.result.now)) c.new.ensures.items ∙ ap (λ ps. constants_from others os [] (params_view ps)) c.as_slice.ensures in
    let told : u ≡ after_faults t (constants_faults others os [] m.params) =
    c.in_ok-add_params.ensures.met ∙ ap (λ ps. after_faults t (constants_faults others os (bindings_view ps) (params_view c.as_slice.result.now))) c.new.ensures.items ∙ ap (λ ps. after_faults t (constants_faults others os [] (params_view ps))) c.as_slice.ensures in
    record {
      same = ap (λ k. k.now) c.in_ok-add_params.ensures.same;
      seen = c.in_ok-add_params.ensures.seen;
      found = ap (λ is. constants_from others os next (flat_map (λ i. item_params i.form) (items_view is))) c.as_slice-item-items.ensures ∙ ap (λ b. constants_from others os b rest) more ∙ sym (constants_append others os [] m.params rest);
      met = ap (λ is. after_faults u (constants_faults others os next (flat_map (λ i. item_params i.form) (items_view is)))) c.as_slice-item-items.ensures ∙ met_append others os [] next m.params rest t u more told;
    }
