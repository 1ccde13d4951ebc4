use Rattle.std.proofs.Common.{◌≡◌, [], ◌∷◌, ◌++◌, Some, None, true, false, refl, sym, ap, subst, ◌∙◌}
use Rattle.std.proofs.lemmas.List.{map-append}
use Rattle.std.specs.Prelude.{is_none, if◌then◌else◌}
use Rattle.verilog_tree.specs.View.{module_view, param_view}
use Rattle.flat_design.specs.Declarations.{param_faults, with_param}
use Rattle.flat_design.specs.Instances.{other_names}
use Rattle.flat_design.specs.Scope.{binding_of, with_entry}
use Rattle.elab_declarations.specs.Constants.{AreSeen, bindings_view, bound_view, given_value, is_param_entry, overrides_view}
use Rattle.elab_scope.specs.Tally.{after_faults}
use Rattle.elab_declarations.specs.Typed.{entry_given}
use Rattle.elab_declarations.proofs.ConstantsLemmas.{always, found_before, found_new, given_is_param, on_ok, param_is_entry, seen_more, with_param-new, with_param-same}
use Rattle.elab_declarations.proofs.constants.add_param.Goals as goal

pub returns-then-is_param : goal.returns-then-is_param
returns-then-is_param c =
    let m = module_view c.args.constants.now.«module».now in
    let bs = bindings_view c.args.constants.now.found.items in
    let g = binding_of c.args.constants.now.scope in
    let p = param_view c.args.param.now in
    let there : is_none (binding_of bs p.name.name) ≡ false = found_before m bs g p c.is_param.result c.requires c.is_param.ensures c.if-is_param.true in
    record {
      same = refl;
      seen = c.requires;
      found = with_param-same (other_names m) (overrides_view c.args.overrides.now) bs p there;
      met = ap (λ b. after_faults c.args.tally.now (if b then param_faults g p else [])) (sym there);
    }

pub insert-requires : goal.insert-requires
insert-requires c =
    let g = binding_of c.args.constants.now.scope in
    let p = param_view c.args.param.now in
    param_is_entry c.param_entry-entry.result (subst (λ e. is_param_entry (Some e) ≡ true) (sym c.param_entry-entry.ensures.value) (given_is_param g c.override_of-given.result p))

pub returns : goal.returns
returns c =
    let m = module_view c.args.constants.now.«module».now in
    let os = overrides_view c.args.overrides.now in
    let bs = bindings_view c.args.constants.now.found.items in
    let g = binding_of c.args.constants.now.scope in
    let p = param_view c.args.param.now in
    let x = p.name.name in
    let e = c.param_entry-entry.result in
    let next = binding_of c.insert.new.self in
    let absent : binding_of bs x ≡ None = found_new m bs g p c.is_param.result c.requires c.is_param.ensures c.if-is_param.false in
    let name : c.from_vec-own.result ≡ x = c.from_vec-own.ensures ∙ c.in_ok-from_slice.ensures.items ∙ c.as_slice-2.ensures in
    let list : bindings_view c.push.new.self.items ≡ bs ++ (x, e) ∷ [] = ap bindings_view c.in_ok-push.ensures.items ∙ map-append bound_view c.args.constants.now.found.items _ ∙ ap (λ n. bs ++ (n, e) ∷ []) name in
    let value : e ≡ entry_given g (given_value os x) p = c.param_entry-entry.ensures.value ∙ ap (λ o. entry_given g o p) (c.override_of-given.ensures ∙ ap (given_value os) c.as_slice.ensures) in
    let one : is_param_entry (Some e) ≡ true = subst (λ e. is_param_entry (Some e) ≡ true) (sym value) (given_is_param g (given_value os x) p) in
    record {
      same = refl;
      seen = on_ok c.insert.result (next ≡ with_entry x e g) (AreSeen m (bindings_view c.push.new.self.items) next) (λ is. subst (λ bs. AreSeen m bs next) (sym list) (seen_more m bs x e g next c.requires absent one is)) c.insert.ensures;
      found = always c.insert.result (bindings_view c.push.new.self.items ≡ with_param (other_names m) os bs p) (list ∙ with_param-new (other_names m) os bs p g e c.requires.0 value absent);
      met = always c.insert.result _ (c.param_entry-entry.ensures.met ∙ ap (λ o. after_faults c.args.tally.now (if is_none o then param_faults g p else [])) (sym absent));
    }
