use Rattle.std.proofs.Common.{◌≡◌, [], ◌∷◌, if◌then◌else◌, false, true, Some, None, sym, ap, ◌∙◌}
use Rattle.std.specs.List.{list_any}
use Rattle.std.specs.Option.{option_map}
use Rattle.std.specs.Prelude.{bytes_eq}
use Rattle.verilog_tree.specs.View.{givens_view, module_view, modules_view}
use Rattle.flat_design.specs.Bodies.{met_fault}
use Rattle.flat_design.specs.Connections.{are_sound_overrides, override_faults, overrides}
use Rattle.flat_design.specs.Fault.{fault_at}
use Rattle.flat_design.specs.Flat.{module_of}
use Rattle.flat_design.specs.Scope.{binding_of}
use Rattle.flat_design.specs.declared.fault.ElabKind.TheVariants.{NoModule, Recursion}
use Rattle.elab_declarations.specs.Constants.{overrides_view}
use Rattle.elab_instances.specs.InstanceView.{around_view, instantiation_view}
use Rattle.elab_scope.specs.Tally.{after, after_faults}
use Rattle.elaborator.proofs.RoomLemmas.{found_countable}
use Rattle.elaborator.proofs.NamedLemmas.{none_absent, none_around, none_sound, sound_none}
use Rattle.elaborator.proofs.naming.find_instances.Goals as goal

pub returns-in_default-clause-none : goal.returns-in_default-clause-none
returns-in_default-clause-none c =
    let ms = modules_view c.args.modules.now.modules.now in
    let x = c.args.item.module.now in
    let absent : module_of ms x.name ≡ None = ap (λ n. module_of ms n.name) (sym c.of-label.ensures) ∙ sym c.find.ensures ∙ ap (option_map (λ found. module_view found.now)) c.in_default.is in (
      fault_at NoModule x ∷ [],
      c.fault.ensures ∙ ap (λ f. after c.args.tally.now (met_fault f)) (c.at.ensures ∙ ap (fault_at NoModule) c.of-label.ensures),
      none_absent ms (instantiation_view c.args.given.now).around (binding_of c.args.scope.now) x (givens_view c.args.item.overrides.now) absent,
    )

pub returns-then-is_around-clause-none : goal.returns-then-is_around-clause-none
returns-then-is_around-clause-none c =
    let ms = modules_view c.args.modules.now.modules.now in
    let x = c.args.item.module.now in
    let m = module_view c.in-Some.module.now in
    let found : module_of ms x.name ≡ Some m = ap (λ n. module_of ms n.name) (sym c.of-label.ensures) ∙ sym c.find.ensures ∙ ap (option_map (λ found. module_view found.now)) c.in-Some.is in
    let inside : list_any (bytes_eq m.name.name) (instantiation_view c.args.given.now).around ≡ true = ap (λ ys. list_any (bytes_eq m.name.name) (around_view ys)) (sym c.deref.ensures.value) ∙ sym c.is_around.ensures ∙ c.if-is_around.true in (
      fault_at Recursion x ∷ [],
      c.fault-then-is_around.ensures ∙ ap (λ f. after c.args.tally.now (met_fault f)) (c.at-then-is_around.ensures ∙ ap (fault_at Recursion) c.of-label.ensures),
      none_around ms (instantiation_view c.args.given.now).around (binding_of c.args.scope.now) x (givens_view c.args.item.overrides.now) m found inside,
    )

pub returns-in-None-clause-none : goal.returns-in-None-clause-none
returns-in-None-clause-none c =
    let ms = modules_view c.args.modules.now.modules.now in
    let g = binding_of c.args.scope.now in
    let x = c.args.item.module.now in
    let cs = givens_view c.args.item.overrides.now in
    let m = module_view c.in-Some.module.now in
    let found : module_of ms x.name ≡ Some m = ap (λ n. module_of ms n.name) (sym c.of-label.ensures) ∙ sym c.find.ensures ∙ ap (option_map (λ found. module_view found.now)) c.in-Some.is in
    let apart : list_any (bytes_eq m.name.name) (instantiation_view c.args.given.now).around ≡ false = ap (λ ys. list_any (bytes_eq m.name.name) (around_view ys)) (sym c.deref.ensures.value) ∙ sym c.is_around.ensures ∙ c.if-is_around.false in
    let faulty = sound_none g x m cs (ap (option_map (λ os. overrides_view os.items)) (sym c.in-None.is) ∙ c.in_ok-found.ensures.found ∙ ap (λ n. if are_sound_overrides g n m cs then Some (overrides g n m cs) else None) c.of-label.ensures) in (
      override_faults g x m cs,
      c.in_ok-found.ensures.met ∙ ap (λ n. after_faults c.args.tally.now (override_faults g n m cs)) c.of-label.ensures,
      none_sound ms (instantiation_view c.args.given.now).around g x cs m found apart faulty,
    )

pub invariant_of-result : goal.invariant_of-result
invariant_of-result c =
    let ms = modules_view c.args.modules.now.modules.now in
    let x = c.args.item.module.now in
    let m = module_view c.in-Some.module.now in
    let found : module_of ms x.name ≡ Some m = ap (λ n. module_of ms n.name) (sym c.of-label.ensures) ∙ sym c.find.ensures ∙ ap (option_map (λ found. module_view found.now)) c.in-Some.is in
    record { countable = found_countable ms x.name m c.args.modules.now.countable found }
